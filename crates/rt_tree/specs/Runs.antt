-- Runs, and the cells that they stand for. The characters of all runs stand in one text, which only grows.
use Rattle.std.specs.Prelude.{◌≡◌, ℕ, ◌+◌, ◌-◌, ◌^◌, ◌<◌, ◌≤◌, ◌==◌, ◌&&◌, nat_le, nat_lt, Bool, List, length, map, take, drop, flat_map, if◌then◌else◌}
use Rattle.rt_stamps.specs.declared.stamp.Stamp.{Stamp}
use Rattle.rt_stamps.specs.Places.{newlines}
use Rattle.rt_store.specs.declared.cell.Cell.{Cell}
use Rattle.rt_store.specs.Cells.{cells_from}
use Rattle.rt_tree.specs.declared.node.Run.{Run}

-- the characters of a run
abbrev pub run_characters : List ℕ → Run → List ℕ
run_characters text r = take r.len (drop r.at text)

-- a cell that is gone, or one that isn't
abbrev pub with_gone : Bool → Cell ℕ → Cell ℕ
with_gone gone cell = record cell { gone = gone }

-- the cells of a run: its characters, with the counts of one site from its first on
abbrev pub run_cells : List ℕ → Run → List (Cell ℕ)
run_cells text r = map (with_gone r.gone) (cells_from r.first r.site r.state (run_characters text r))

-- the cells of runs, one run after the other
abbrev pub cells_of_runs : List ℕ → List Run → List (Cell ℕ)
cells_of_runs text rs = flat_map (run_cells text) rs

-- the stamp of a run's first cell
abbrev pub first_stamp : Run → Stamp
first_stamp r = record { count = r.first; site = r.site }

-- a stamp is that of one of a run's cells
abbrev pub has_cell : Run → Stamp → Bool
has_cell r stamp = (r.site == stamp.site) && (nat_le r.first stamp.count && nat_lt (stamp.count - r.first) r.len)

-- What a run keeps to: it has cells, its characters are in the text, its counts are counts; and no character but the last is a
-- newline, and that one only if the run says so.
pub record IsRun (text : List ℕ) (r : Run) : Type 0 where
  pub some : 0 < r.len
  pub stands : r.at + r.len ≤ length text
  pub counts : r.first + r.len ≤ 2 ^ 64
  pub plain : newlines (take (r.len - 1) (run_characters text r)) ≡ 0
  pub ends : newlines (run_characters text r) ≡ (if r.newline then 1 else 0)
