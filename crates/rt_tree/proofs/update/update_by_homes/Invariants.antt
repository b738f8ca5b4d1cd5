use Rattle.std.proofs.Common.{◌≡◌, ◌≤◌, ◌+◌, ◌-◌, length, map}
use Rattle.rt_tree.specs.Homes.{run_to}
use Rattle.rt_tree.specs.Shape.{IsTree, tree_runs}
use Rattle.rt_tree.specs.Standing.{StampsStay}
use Rattle.rt_tree.specs.Summaries.{AreTold}
use Rattle.rt_tree.proofs.update.update_by_homes.Given as goal

abbrev pub invariant-loop-count : goal.invariant-loop-count
invariant-loop-count l = record {
  low : l.span.first ≤ l.count;
  tree : IsTree l.mem l.root.index;
  updates : tree_runs l.mem l.root.index ≡ map (run_to l.span l.count l.update) (tree_runs l.initial.mem l.root.index);
  room : length l.mem.heads + l.mem.room ≡ length l.initial.mem.heads + l.initial.mem.room;
  told : AreTold l.states l.mem l.sums (tree_runs l.mem l.root.index);
  tags : l.sums.tags ≡ l.initial.sums.tags;
  stay : StampsStay l.initial.mem l.mem;
}

abbrev pub decreases-loop-count : goal.decreases-loop-count
decreases-loop-count l = l.span.last + 1 - l.count
