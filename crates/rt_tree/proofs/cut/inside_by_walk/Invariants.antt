use Rattle.std.proofs.Common.{◌-◌}
use Rattle.rt_tree.specs.Shape.{tree_runs}
use Rattle.rt_tree.specs.Sharing.{BeginsAt}
use Rattle.rt_tree.proofs.Walking.{ArePassed}
use Rattle.rt_tree.proofs.cut.inside_by_walk.Given as goal

abbrev pub invariant-loop-at : goal.invariant-loop-at
invariant-loop-at l = ArePassed (tree_runs l.mem l.root.index) l.at (BeginsAt l.stamp)

abbrev pub decreases-loop-at : goal.decreases-loop-at
decreases-loop-at l = l.all - l.at
