use Rattle.std.proofs.Common.{◌≡◌, true, take}
use Rattle.rt_oplog.specs.Blocks.{places_in_blocks}
use Rattle.rt_oplog.proofs.Fitting.{fit}
use Rattle.rt_oplog.proofs.file.all_fit.Given as goal

abbrev pub invariant-loop-block : goal.invariant-loop-block
invariant-loop-block l = fit l.ops.rows (places_in_blocks (take l.block-index l.blocks)) ≡ true
