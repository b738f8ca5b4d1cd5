use Rattle.std.proofs.Common.{◌≡◌, take}
use Rattle.rt_oplog.specs.Blocks.{places_in_blocks}
use Rattle.rt_oplog.proofs.blocks.flat.Given as goal

abbrev pub invariant-loop-block : goal.invariant-loop-block
invariant-loop-block l = l.places.items ≡ places_in_blocks (take l.block-index l.blocks)
