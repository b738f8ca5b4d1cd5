use Rattle.std.proofs.Common.{◌≡◌, take}
use Rattle.rt_tagcmd.specs.TagCommands.{range_ends}
use Rattle.rt_tagcmd.proofs.tag_find.range_ends.Given as goal

abbrev pub invariant-loop-range : goal.invariant-loop-range
invariant-loop-range g l = l.positions.items ≡ range_ends l.view (take l.range-index l.ranges)
