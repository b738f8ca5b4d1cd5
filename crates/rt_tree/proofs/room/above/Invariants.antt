use Rattle.std.proofs.Common.{◌≡◌}
use Rattle.rt_tree.specs.Changes.{bare, above}
use Rattle.rt_tree.proofs.room.above.Given as goal

abbrev pub invariant-loop-i : goal.invariant-loop-i
invariant-loop-i l = l.at.index ≡ above (bare l.mem) l.i l.fn.node.index
