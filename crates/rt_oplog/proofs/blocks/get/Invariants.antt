use Rattle.std.proofs.Common.{◌≡◌, ◌<◌, ◌≤◌, length}
use Rattle.rt_oplog.specs.Blocks.{places_before}
use Rattle.rt_oplog.proofs.blocks.get.Given as goal

abbrev pub invariant-loop-block : goal.invariant-loop-block
invariant-loop-block l = record {
  before : l.before ≡ places_before l.blocks l.block;
  within : l.at < l.before;
  blocks : l.block ≤ length l.blocks;
}

abbrev pub decreases-loop-block : goal.decreases-loop-block
decreases-loop-block l = l.block
