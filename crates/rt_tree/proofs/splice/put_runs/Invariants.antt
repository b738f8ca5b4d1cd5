use Rattle.std.proofs.Common.{◌≡◌, ◌+◌, ◌-◌, ◌<◌, ◌≤◌, true, length}
use Rattle.std.specs.Prelude.{IfSome}
use Rattle.rt_tree.specs.Growing.{EndsThere}
use Rattle.rt_tree.specs.Holds.{IsEndAt}
use Rattle.rt_tree.specs.Runs.{cells_of_runs}
use Rattle.rt_tree.specs.Homes.{AreHome}
use Rattle.rt_tree.specs.Shape.{IsTree, tree_runs}
use Rattle.rt_tree.specs.Sharing.{AreBelowGreatest, AreOnce, NoneIsNewer}
use Rattle.rt_tree.specs.Standing.{AreHoused}
use Rattle.rt_tree.specs.Summaries.{AreTold}
use Rattle.rt_tree.proofs.Splicing.{IsSpliced}
use Rattle.rt_tree.proofs.splice.put_runs.Given as goal

abbrev pub invariant-loop-done : goal.invariant-loop-done
invariant-loop-done l = record {
  tree : IsTree l.mem l.root.index;
  spliced : IsSpliced l.new.text.now (tree_runs l.initial.mem l.initial.root.index) (tree_runs l.mem l.root.index) l.new.at l.done l.more l.lone l.new.cells.now;
  upto : NoneIsNewer l.newest (cells_of_runs l.new.text.now (tree_runs l.mem l.root.index));
  room : length l.mem.heads + l.mem.room ≡ length l.initial.mem.heads + l.initial.mem.room;
  told : AreTold l.states l.mem l.sums (tree_runs l.mem l.root.index);
  tags : l.sums.tags ≡ l.initial.sums.tags;
  home : l.homes.sure ≡ true → AreHome l.homes.leaves (tree_runs l.mem l.root.index);
  housed : l.homes.sure ≡ true → AreHoused l.mem l.root.index l.homes.leaves;
  sure : l.initial.homes.sure ≡ true → AreOnce (cells_of_runs l.new.text.now (tree_runs l.initial.mem l.initial.root.index)) l.new.cells.now → AreBelowGreatest l.new.cells.now → l.homes.sure ≡ true;
  left : l.initial.homes.left ≤ l.homes.left + l.done;
  newest : 0 < l.done → EndsThere (tree_runs l.mem l.root.index) (l.new.at + l.done) (length l.new.text.now - length l.new.cells.now + l.done);
  end : IfSome l.end (IsEndAt l.mem l.root.index (l.new.at + l.done));
}

abbrev pub decreases-loop-done : goal.decreases-loop-done
decreases-loop-done l = length l.new.cells.now - l.done
