-- Words of private contracts.
use Rattle.std.specs.Prelude.{ℕ, ◌+◌, ◌==◌, ◌&&◌, nat_le, Bool, List, [], ◌∷◌, ◌++◌, Option, None, Some, option_and_then, option_map, if◌then◌else◌}
use Rattle.rt_stamps.specs.declared.stamp.Stamp.{Stamp}
use Rattle.rt_store.specs.declared.cell.Cell.{Cell}
use Rattle.rt_store.specs.Cells.{cell_of, position_of, visible_before}
use Rattle.rt_plans.specs.declared.range.Range.{Range}
use Rattle.rt_undo.specs.Actions.{Removed}

-- the place of a stamp's character, if it is visible
abbrev pub visible_place : {T : Type 0} → List (Cell T) → Stamp → Option ℕ
visible_place cells stamp =
    option_and_then (λ cell. if cell.gone then None else option_map (visible_before cells) (position_of cells stamp)) (cell_of cells stamp)

-- a place as a range
abbrev pub range_at : Option ℕ → List Range
range_at None = []
range_at (Some place) = record { from = place; to = place + 1 } ∷ []

-- the places of those of some characters that are visible
abbrev pub ranges_of_visible : {T : Type 0} → List (Cell T) → List Stamp → List Range
ranges_of_visible cells [] = []
ranges_of_visible cells (stamp ∷ stamps) = range_at (visible_place cells stamp) ++ ranges_of_visible cells stamps

-- the place behind a range
abbrev pub is_behind : Range → ℕ → Bool
is_behind range place = nat_le range.from range.to && (range.to == place)

-- a cell as a character that is removed
abbrev pub cell_removed : Cell ℕ → Removed ℕ
cell_removed cell = record { stamp = cell.stamp; tags = cell.state }
