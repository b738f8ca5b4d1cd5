-- Stretches of runs and of cells, and what changes them.
use Rattle.std.specs.Prelude.{◌≡◌, ℕ, ◌+◌, ◌-◌, ◌≤◌, ◌⊎◌, true, false, List, [], ◌∷◌, length, map}
use Rattle.std.specs.List.{AllByRecursion}
use Rattle.rt_stamps.specs.declared.limits.TheConstants.{MOST_CELLS}
use Rattle.rt_store.specs.declared.cell.Cell.{Cell}
use Rattle.rt_store.specs.Cells.{with_state}
use Rattle.rt_tags.specs.States.{IsState, TagStates}
use Rattle.rt_tree.specs.declared.node.Run.{Run}
use Rattle.rt_tree.specs.declared.update.CellUpdate.{CellUpdate}
use Rattle.rt_tree.specs.declared.update.CellUpdate.TheVariants.{Gone, State}
use Rattle.rt_tree.specs.Runs.{IsRun, cells_of_runs, with_gone}

-- what a update makes of a cell, and of a run
abbrev pub updated_cell : CellUpdate → Cell ℕ → Cell ℕ
updated_cell Gone cell = with_gone true cell
updated_cell (State state) cell = with_state state cell

abbrev pub updated_run : CellUpdate → Run → Run
updated_run Gone r = record r { gone = true }
updated_run (State state) r = record r { state = state }

-- the state that a update gives was given out
abbrev pub IsGiven : TagStates → CellUpdate → Type 0
IsGiven table Gone = Unit {0}
IsGiven table (State state) = IsState table state

-- how many cells runs have
abbrev pub lengths : List Run → List ℕ
lengths rs = map (λ r. r.len) rs

-- a run begins or ends at a position, as the lengths of runs are
abbrev pub IsEdge : List ℕ → ℕ → Type 0
IsEdge [] at = at ≡ 0
IsEdge (n ∷ ns) at = (at ≡ 0) ⊎ ((n ≤ at) × IsEdge ns (at - n))

-- the first cells of a run, and the others
abbrev pub front_of : ℕ → Run → Run
front_of k r = record r { len = k; newline = false }

abbrev pub back_of : ℕ → Run → Run
back_of k r = record r { first = r.first + k; at = r.at + k; len = r.len - k }

-- runs are as they should be in some text
pub record AreRunsOfText (rs : List Run) : Type 0 where
  pub text : List ℕ
  pub short : length text ≤ MOST_CELLS
  pub runs : AllByRecursion (IsRun text) rs

-- Stretches of runs change: the runs stay as they should be, and the cells are changed in a way.
pub record AreChanged (old new : List Run) (text : List ℕ) (f : List (Cell ℕ) → List (Cell ℕ)) : Type 0 where
  pub kept : AllByRecursion (IsRun text) new
  pub cells : cells_of_runs text new ≡ f (cells_of_runs text old)
