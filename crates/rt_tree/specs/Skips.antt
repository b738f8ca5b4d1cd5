-- How far runs are passed. No public clause cites this module.
use Rattle.std.specs.Prelude.{ℕ, ◌+◌, ◌-◌, ◌<◌, ◌==◌, ◌&&◌, ◌||◌, nat_le, not, Bool, List, [], ◌∷◌, if◌then◌else◌}
use Rattle.rt_stamps.specs.declared.stamp.Stamp.{Stamp}
use Rattle.rt_stamps.specs.Stamps.{is_before}
use Rattle.rt_tree.specs.declared.node.Run.{Run}
use Rattle.rt_tree.specs.declared.node.Totals.{Totals}
use Rattle.rt_tree.specs.Changes.{least_of}
use Rattle.rt_tree.specs.Runs.{first_stamp}

-- a run has cells
abbrev pub HasCells : Run → Type 0
HasCells r = 0 < r.len

-- a run that begins at a position, from which a new stamp is looked for, and whose first stamp isn't greater
abbrev pub stops : ℕ → Stamp → Run → Bool
stops from new r = (from == 0) && not (is_before new (first_stamp r))

-- how many cells stand before the first run that begins so many cells on, or further, and whose first stamp isn't greater than a
-- new one; all of them, if there is no such run
abbrev pub passed : ℕ → Stamp → List Run → ℕ
passed from new [] = 0
passed from new (r ∷ rs) = if stops from new r then 0 else r.len + passed (from - r.len) new rs

-- runs are passed whole, as their totals tell: they end before, or all of their first stamps are greater
abbrev pub are_passed : ℕ → Stamp → Totals → Bool
are_passed from new t = nat_le t.counts.cells from || ((from == 0) && is_before new (least_of t))
