use Rattle.std.proofs.Common.{◌≡◌, ◌-◌, false}
use Rattle.rt_tree.specs.declared.node.Run.{Run}
use Rattle.rt_tree.specs.Shape.{tree_runs}
use Rattle.rt_tree.specs.Sharing.{is_shared_by}
use Rattle.rt_tree.proofs.Walking.{ArePassed}
use Rattle.rt_tree.proofs.splice.is_shared.Given as goal

abbrev pub invariant-loop-at : goal.invariant-loop-at
invariant-loop-at l = ArePassed (tree_runs l.mem l.root.index) l.at (λ (r : Run). is_shared_by l.run r ≡ false)

abbrev pub decreases-loop-at : goal.decreases-loop-at
decreases-loop-at l = l.all - l.at
