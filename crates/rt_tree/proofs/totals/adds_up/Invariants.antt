use Rattle.std.proofs.Common.{◌≡◌, ◌≤◌, drop, length}
use Rattle.rt_nodes.specs.Nodes.{entries}
use Rattle.rt_tree.specs.Changes.{adds_up}
use Rattle.rt_tree.proofs.totals.adds_up.Given as goal

abbrev pub invariant-loop-left : goal.invariant-loop-left
invariant-loop-left l = record {
  sum_is : l.sum ≡ adds_up (drop l.left (entries l.mem l.id.index));
  within : l.left ≤ length (entries l.mem l.id.index);
}

abbrev pub decreases-loop-left : goal.decreases-loop-left
decreases-loop-left l = l.left
