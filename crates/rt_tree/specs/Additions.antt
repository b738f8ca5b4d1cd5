-- New cells, and the runs that they come into.
use Rattle.std.specs.Prelude.{◌≡◌, ℕ, ◌+◌, ◌-◌, ◌≤◌, ◌==◌, ◌&&◌, not, Bool, List, [], ◌∷◌, length, map, take, drop, if◌then◌else◌}
use Rattle.std.proofs.Math.Bool.{beq}
use Rattle.rt_stamps.specs.Stamps.{is_same}
use Rattle.rt_store.specs.declared.cell.Cell.{Cell}
use Rattle.rt_store.specs.Spans.{next_stamp}
use Rattle.rt_tree.specs.declared.node.Run.{Run}
use Rattle.rt_tree.specs.Runs.{IsRun, run_cells}

-- a cell goes on where another ends: with the next count of its site, in its state, gone if that one is, and in its line
abbrev pub follows : Cell ℕ → Cell ℕ → Bool
follows before cell = (cell.state == before.state) && (beq cell.gone before.gone && (is_same cell.stamp (next_stamp before.stamp) && not (before.ch == 10)))

-- how many stretches cells have, each as long as its cells follow one another
abbrev pub stretch_count : List (Cell ℕ) → ℕ
stretch_count [] = 0
stretch_count (a ∷ []) = 1
stretch_count (a ∷ b ∷ cells) = (if follows a b then 0 else 1) + stretch_count (b ∷ cells)

-- the first cells are one stretch, and it ends there
pub record IsStretch (cells : List (Cell ℕ)) (len : ℕ) : Type 0 where
  pub within : len ≤ length cells
  pub one : stretch_count (take len cells) ≡ 1
  pub longest : stretch_count cells ≡ 1 + stretch_count (drop len cells)

-- the characters of cells are the last of a text
pub record EndsWith (text : List ℕ) (cells : List (Cell ℕ)) : Type 0 where
  pub long : length cells ≤ length text
  pub last : drop (length text - length cells) text ≡ map (λ cell. cell.ch) cells

-- so many cells from a first one on, whose characters begin at a place of the text, and whether the last is a newline
abbrev pub run_from : Cell ℕ → ℕ → ℕ → Bool → Run
run_from cell at len newline =
    record { first = cell.stamp.count; state = cell.state; at = at; len = len; site = cell.stamp.site; gone = cell.gone; newline = newline }

-- a run has the first cells, as many as may be
pub record IsFrontOf (text : List ℕ) (cells : List (Cell ℕ)) (r : Run) : Type 0 where
  pub within : r.len ≤ length cells
  pub at : r.at ≡ length text - length cells
  pub run : IsRun text r
  pub same : run_cells text r ≡ take r.len cells

-- a run has the first cells, those of a whole stretch
pub record IsRunOf (text : List ℕ) (cells : List (Cell ℕ)) (r : Run) : Type 0 where
  pub stretch : IsStretch cells r.len
  pub front : IsFrontOf text cells r

-- a run goes on where another ends: with the next count of its site and the next character, in its state, gone if that one is, and in its line
abbrev pub are_joint : Run → Run → Bool
are_joint before run =
    (run.state == before.state) && (beq run.gone before.gone && ((run.site == before.site) && ((run.first == before.first + before.len)
    && ((run.at == before.at + before.len) && not before.newline))))

-- both as one run
abbrev pub run_joined : Run → Run → Run
run_joined before run = record before { len = before.len + run.len; newline = run.newline }
