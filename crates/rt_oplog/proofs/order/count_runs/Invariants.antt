use Rattle.std.proofs.Common.{◌≡◌, take}
use Rattle.rt_oplog.specs.Blocks.{runs_of}
use Rattle.rt_oplog.proofs.order.count_runs.Given as goal

abbrev pub invariant-loop-block : goal.invariant-loop-block
invariant-loop-block l = l.runs ≡ runs_of (take l.block-index l.blocks)
