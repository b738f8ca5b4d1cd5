use Rattle.std.proofs.Common.{◌≤◌, ◌-◌}
use Rattle.rt_tree.proofs.Positions.{before}
use Rattle.rt_tree.proofs.tree.Tree.walk_to_stamp.Given as goal

abbrev pub invariant-loop-at : goal.invariant-loop-at
invariant-loop-at l = l.at ≤ before l.self.cells l.stamp

abbrev pub decreases-loop-at : goal.decreases-loop-at
decreases-loop-at l = l.all - l.at
