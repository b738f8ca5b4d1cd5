-- What the fields of a tree keep to. No public clause cites this module.
use Rattle.std.specs.Prelude.{◌≡◌, ◌+◌, ◌≤◌, true, IfSome, vec_capacity}
use Rattle.rt_tree.specs.declared.tree.Tree.TheInside.{Inside}
use Rattle.rt_tree.specs.Holds.{Holds}
use Rattle.rt_tree.specs.Homes.{AreHome, AreOnceEach}
use Rattle.rt_tree.specs.Runs.{cells_of_runs}
use Rattle.rt_tree.specs.Shape.{tree_runs}
use Rattle.rt_tree.specs.Sharing.{AreBelowGreatest, NoneIsNewer}
use Rattle.rt_tree.specs.Standing.{AreHoused}
use Rattle.rt_tree.specs.Tallies.{IsCountOf}
use Rattle.rt_tree.specs.Trees.{HaveSummaries, IsTreeOfText, IsRoomy}

pub record TreeIsSound (t : Inside) : Type 0 where
  -- the nodes are a tree of the runs, whose characters stand in the text
  pub kept : IsTreeOfText t.mem t.root.index t.text.items t.runs
  -- there is room for the new cells and cuts that are promised
  pub roomy : IsRoomy t.mem t.root.index t.text.items (vec_capacity t.text) (record { cells = t.spare_cells; cuts = t.spare_cuts; tags = t.spare_tags })
  -- no cell has a greater count than the newest
  pub newest : NoneIsNewer t.newest (cells_of_runs t.text.items (tree_runs t.mem t.root.index))
  -- while the map of leaves is sure, no stamp is in two runs, each that is in one has a leaf, and no other one has
  pub home : t.homes.sure ≡ true → AreHome t.homes.leaves (tree_runs t.mem t.root.index)
  -- and each run's stamps have the leaf in which it stands
  pub housed : t.homes.sure ≡ true → AreHoused t.mem t.root.index t.homes.leaves
  -- it is sure where no stamp is in two runs and no count is the greatest that there is
  pub steady : AreOnceEach (tree_runs t.mem t.root.index) → AreBelowGreatest (cells_of_runs t.text.items (tree_runs t.mem t.root.index)) → t.homes.sure ≡ true
  -- each new cell that there is room for can be given a leaf, and a part of each run that is cut
  pub spans : t.spare_cells + t.spare_cuts ≤ t.homes.left
  -- there are summaries for all nodes, spare ones too, with memory for counts of the tags that are promised
  pub sums : HaveSummaries t.mem t.sums t.spare_tags
  -- the three counts are those of the cells
  pub counts : IsCountOf t.counts (cells_of_runs t.text.items (tree_runs t.mem t.root.index))
  -- the run that got longer last stands where it is said to
  pub last : IfSome t.last (Holds t.mem t.root.index)
