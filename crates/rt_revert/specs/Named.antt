-- The cells that the actions of a group name.
use Rattle.std.specs.Prelude.{◌≡◌, ℕ, ◌==◌, Bool, false, List, ◌∷◌, ◌++◌, map, option_map, slice_get, unwrap_or, Some}
use Rattle.std.specs.List.{flat_map, list_any}
use Rattle.rt_stamps.specs.declared.stamp.Stamp.{Stamp}
use Rattle.rt_stamps.specs.declared.stamp.TheConstants.{FINAL}
use Rattle.rt_store.specs.declared.cell.Cell.{Cell}
use Rattle.rt_store.specs.Spans.{is_among}
use Rattle.rt_undo.specs.Actions.{Action}

-- the stamps that an action names, and those that a group names
abbrev pub named_by : {T : Type 0} → Action T → List Stamp
named_by action = action.inserted ++ map (λ r. r.stamp) action.removed

abbrev pub named_in : {T : Type 0} → List (Action T) → List Stamp
named_in group = flat_map named_by group

-- a stamp that a group names, or the final newline's
abbrev pub is_in_group : {T : Type 0} → List (Action T) → Stamp → Bool
is_in_group group s = is_among (FINAL ∷ named_in group) s

-- POSITIONS

-- a position is one of some
abbrev pub has_position : List ℕ → ℕ → Bool
has_position positions position = list_any (λ p. p == position) positions

-- the cell at a position has one of some stamps
abbrev pub is_one_at : {T : Type 0} → List Stamp → List (Cell T) → ℕ → Bool
is_one_at stamps cells position = unwrap_or (option_map (λ cell. is_among stamps cell.stamp) (slice_get cells position)) false

-- what stands at positions of a list
abbrev pub AreAt : {X : Type 0} → List X → List ℕ → List X → Type 0
AreAt all positions xs = map (slice_get all) positions ≡ map Some xs
