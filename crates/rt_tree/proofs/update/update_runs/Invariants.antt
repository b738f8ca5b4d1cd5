use Rattle.std.proofs.Common.{◌≡◌, ◌+◌, ◌-◌, length}
use Rattle.rt_tree.specs.Shape.{IsTree, tree_runs}
use Rattle.rt_tree.specs.Standing.{StampsStay}
use Rattle.rt_tree.specs.Summaries.{AreTold}
use Rattle.rt_tree.proofs.Updating.{AreUpdated}
use Rattle.rt_tree.proofs.update.update_runs.Given as goal

abbrev pub invariant-loop-at : goal.invariant-loop-at
invariant-loop-at l = record {
  tree : IsTree l.mem l.root.index;
  updated : AreUpdated l.span l.update (tree_runs l.initial.mem l.root.index) (tree_runs l.mem l.root.index) l.at;
  room : length l.mem.heads + l.mem.room ≡ length l.initial.mem.heads + l.initial.mem.room;
  told : AreTold l.states l.mem l.sums (tree_runs l.mem l.root.index);
  tags : l.sums.tags ≡ l.initial.sums.tags;
  stay : StampsStay l.initial.mem l.mem;
}

abbrev pub decreases-loop-at : goal.decreases-loop-at
decreases-loop-at l = l.all - l.at
