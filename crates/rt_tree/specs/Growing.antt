-- A run that grows as cells are typed on. No public clause cites this module.
use Rattle.std.specs.Prelude.{◌≡◌, ℕ, ◌+◌, ◌-◌, ◌<◌, ◌≤◌, List, ◌∷◌, ◌++◌, length, slice_get, Some}
use Rattle.std.specs.List.{AllByRecursion}
use Rattle.rt_store.specs.declared.cell.Cell.{Cell}
use Rattle.rt_tree.specs.declared.node.Run.{Run}
use Rattle.rt_tree.specs.Additions.{stretch_count}
use Rattle.rt_tree.specs.Runs.{cells_of_runs}
use Rattle.rt_tree.specs.Sums.{counts_of}
use Rattle.rt_tree.specs.Trees.{came_of}

-- a run ends at a position, and its characters at a place of the text
pub record EndsThere (rs : List Run) (at place : ℕ) : Type 0 where
  pub left : List Run
  pub run : Run
  pub right : List Run
  pub here : rs ≡ left ++ run ∷ right
  pub some : 0 < run.len
  pub end : (counts_of left).cells + run.len ≡ at
  pub stands : run.at + run.len ≡ place

-- New cells, whose characters are the last of a text, go on from the one before a position, whose character is the last
-- before theirs.
pub record GoOnIn (text : List ℕ) (rs : List Run) (at : ℕ) (cells : List (Cell ℕ)) : Type 0 where
  pub before : Cell ℕ
  pub some : 0 < at
  pub there : slice_get (cells_of_runs text rs) (at - 1) ≡ Some before
  pub last : slice_get (came_of rs) (at - 1) ≡ Some (length text - length cells - 1)
  pub one : stretch_count (before ∷ cells) ≡ 1
  pub old : AllByRecursion (λ r. r.at + r.len + length cells ≤ length text) rs
