-- Stamps that runs share, and the runs of a span of stamps.
use Rattle.std.specs.Prelude.{◌≡◌, ℕ, ◌+◌, ◌-◌, ◌^◌, ◌<◌, ◌≤◌, ◌&&◌, ◌||◌, nat_lt, true, Bool, List, ◌∷◌, ◌++◌, length, filter, if◌then◌else◌}
use Rattle.std.specs.List.{AllByRecursion}
use Rattle.rt_stamps.specs.declared.stamp.Span.{Span}
use Rattle.rt_stamps.specs.declared.stamp.Stamp.{Stamp}
use Rattle.rt_stamps.specs.Stamps.{is_same}
use Rattle.rt_store.specs.declared.cell.Cell.{Cell}
use Rattle.rt_store.specs.Cells.{is_in_span}
use Rattle.rt_tree.specs.declared.update.CellUpdate.{CellUpdate}
use Rattle.rt_tree.specs.declared.node.Counts.{Counts}
use Rattle.rt_tree.specs.declared.node.CountedBy.TheVariants.{Cells}
use Rattle.rt_tree.specs.declared.node.Run.{Run}
use Rattle.rt_tree.specs.Runs.{IsRun, cells_of_runs, first_stamp, has_cell}
use Rattle.rt_tree.specs.Stretches.{IsEdge, back_of, front_of, lengths, updated_cell, updated_run}
use Rattle.rt_tree.specs.Sums.{counts_of}
use Rattle.rt_tree.specs.Walks.{StandsAt}

-- a run of more than one cell has a stamp
abbrev pub is_long_with : Stamp → Run → Bool
is_long_with stamp r = nat_lt 1 r.len && has_cell r stamp

-- how many runs of more than one cell have a stamp
abbrev pub long_with : Stamp → List Run → ℕ
long_with stamp rs = length (filter (is_long_with stamp) rs)

-- no stamp is in two runs of more than one cell
abbrev pub AreApart : List Run → Type 0
AreApart rs = (stamp : Stamp) → long_with stamp rs ≤ 1

-- another run of more than one cell has a stamp of a run
abbrev pub is_shared_by : Run → Run → Bool
is_shared_by run other = nat_lt 1 other.len && (has_cell other (first_stamp run) || has_cell run (first_stamp other))

-- a run that has a stamp begins with it
abbrev pub BeginsAt : Stamp → Run → Type 0
BeginsAt stamp r = has_cell r stamp ≡ true → r.first ≡ stamp.count

-- runs with the same cells, where runs begin and end at no fewer positions, and share no more stamps
pub record IsRecut (old new : List Run) : Type 0 where
  pub kept : (text : List ℕ) → AllByRecursion (IsRun text) old → AllByRecursion (IsRun text) new
  pub cells : (text : List ℕ) → AllByRecursion (IsRun text) old → cells_of_runs text new ≡ cells_of_runs text old
  pub edges : (at : ℕ) → IsEdge (lengths old) at → IsEdge (lengths new) at
  pub apart : AreApart old → AreApart new
  pub begins : (stamp : Stamp) → AllByRecursion (BeginsAt stamp) old → AllByRecursion (BeginsAt stamp) new

-- the run that a position is within, so many cells behind its beginning, is cut in two there
abbrev pub AreParts : List Run → List Run → ℕ → Type 0
AreParts old new at = (left right : List Run) (run : Run) (k : ℕ) → old ≡ left ++ run ∷ right → (counts_of left).cells + k ≡ at → 0 < k → k < run.len
    → new ≡ left ++ front_of k run ∷ back_of k run ∷ right

-- a run has a stamp and doesn't begin with it; the stamp's cell is at a position
pub record IsInside (rs : List Run) (stamp : Stamp) (at : ℕ) : Type 0 where
  pub left : List Run
  pub run : Run
  pub right : List Run
  pub here : rs ≡ left ++ run ∷ right
  pub there : has_cell run stamp ≡ true
  pub later : run.first < stamp.count
  pub place : (counts_of left).cells + (stamp.count - run.first) ≡ at

-- a run is updated if its first stamp is in a span
abbrev pub run_in : Span → CellUpdate → Run → Run
run_in span update r = if is_in_span span (first_stamp r) then updated_run update r else r

-- a cell is updated if its stamp is in a span
abbrev pub cell_updated_in : Span → CellUpdate → Cell ℕ → Cell ℕ
cell_updated_in span update cell = if is_in_span span cell.stamp then updated_cell update cell else cell

-- the run that has the cell at a position is changed in a way; it has so many cells
pub record IsChangedAt (old new : List Run) (at : ℕ) (f : Run → Run) (len : ℕ) : Type 0 where
  pub run : Run
  pub front : Counts
  pub offset : ℕ
  pub was : StandsAt Cells old run front offset at
  pub is : new ≡ was.left ++ f run ∷ was.right
  pub long : len ≡ run.len

-- how many cells have a stamp
abbrev pub occurrences : Stamp → List (Cell ℕ) → ℕ
occurrences stamp cells = length (filter (λ cell. is_same cell.stamp stamp) cells)

-- no two cells have one stamp, those of two lists together
abbrev pub AreOnce : List (Cell ℕ) → List (Cell ℕ) → Type 0
AreOnce old new = (stamp : Stamp) → occurrences stamp old + occurrences stamp new ≤ 1

-- no cell has a greater count
abbrev pub NoneIsNewer : ℕ → List (Cell ℕ) → Type 0
NoneIsNewer newest cells = AllByRecursion (λ cell. cell.stamp.count ≤ newest) cells

-- no cell has the greatest count that there is
abbrev pub AreBelowGreatest : List (Cell ℕ) → Type 0
AreBelowGreatest cells = NoneIsNewer (2 ^ 64 - 2) cells

-- runs as they should be in some text, with no cell of a greater count
pub record AreKnown (newest : ℕ) (rs : List Run) : Type 0 where
  pub text : List ℕ
  pub kept : AllByRecursion (IsRun text) rs
  pub upto : NoneIsNewer newest (cells_of_runs text rs)
