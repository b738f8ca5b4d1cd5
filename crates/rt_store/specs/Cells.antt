-- The cells of a text, as a list.
use Rattle.std.specs.Prelude.{◌≡◌, ℕ, ◌+◌, ◌-◌, ◌<◌, ◌≤◌, not, true, false, List, [], ◌∷◌, ◌++◌, length, take, drop, map, filter, take_while, position, Option, Some, IsSome, option_map, IsTrue, ◌⊎◌, slice_get, if◌then◌else◌, unwrap_or}
use Rattle.std.specs.List.{IsDistinct, find}
use Rattle.rt_stamps.specs.declared.stamp.Span.{Span}
use Rattle.rt_stamps.specs.declared.stamp.Stamp.{Stamp}
use Rattle.rt_stamps.specs.declared.stamp.TheConstants.{FINAL, ROOT}
pub use Rattle.rt_stamps.specs.Spans.{is_in_span}
use Rattle.rt_stamps.specs.Stamps.{is_before, is_same}
use Rattle.rt_store.specs.declared.cell.Cell.{Cell}

-- the cells that aren't gone
abbrev pub visible_of : {T : Type 0} → List (Cell T) → List (Cell T)
visible_of cells = filter (λ cell. not cell.gone) cells

-- the text: the characters of the visible cells
abbrev pub text_of : {T : Type 0} → List (Cell T) → List ℕ
text_of cells = map (λ cell. cell.ch) (visible_of cells)

-- the cell of the final newline, at first in the empty state
abbrev pub final_cell : Cell ℕ
final_cell = record { stamp = FINAL; ch = 10; gone = false; state = 0 }

-- a cell with another state in place of its own, of another kind perhaps
abbrev pub map_state : {S T : Type 0} → (S → T) → Cell S → Cell T
map_state f cell = record { stamp = cell.stamp; ch = cell.ch; gone = cell.gone; state = f cell.state }

-- a cell in a state
abbrev pub with_state : {T : Type 0} → T → Cell T → Cell T
with_state state cell = record cell { state = state }

-- the last cell is the final newline, in any state
abbrev pub EndsFinal : {T : Type 0} → List (Cell T) → Type 0
EndsFinal cells = option_map (map_state (λ _. final_cell.state)) (slice_get cells (length cells - 1)) ≡ Some final_cell

-- new cells for characters, from a count on, in one state
abbrev pub cells_from : {T : Type 0} → ℕ → ℕ → T → List ℕ → List (Cell T)
cells_from count site state [] = []
cells_from count site state (c ∷ cs) =
    record { stamp = record { count = count; site = site }; ch = c; gone = false; state = state } ∷ cells_from (count + 1) site state cs

-- STAMPS AND POSITIONS

abbrev pub stamps_of : {T : Type 0} → List (Cell T) → List Stamp
stamps_of cells = map (λ cell. cell.stamp) cells

-- no two cells have one stamp
abbrev pub AreDistinct : {T : Type 0} → List (Cell T) → Type 0
AreDistinct cells = IsDistinct is_same (stamps_of cells)

-- the cell of a stamp
abbrev pub cell_of : {T : Type 0} → List (Cell T) → Stamp → Option (Cell T)
cell_of cells stamp = find (λ cell. is_same cell.stamp stamp) cells

-- the position of a stamp's cell
abbrev pub position_of : {T : Type 0} → List (Cell T) → Stamp → Option ℕ
position_of cells stamp = position (λ cell. is_same cell.stamp stamp) cells

-- how many visible cells stand before a position
abbrev pub visible_before : {T : Type 0} → List (Cell T) → ℕ → ℕ
visible_before cells position = length (visible_of (take position cells))

-- the position after an element, which is the first of all for the root
abbrev pub after_element : {T : Type 0} → List (Cell T) → Stamp → ℕ
after_element cells left = if is_same left ROOT then 0 else unwrap_or (position_of cells left) 0 + 1

-- an element is the root, or a cell before the last one
abbrev pub StandsBefore : {T : Type 0} → List (Cell T) → Stamp → Type 0
StandsBefore cells left = (IsSome (position_of cells left) ⊎ (IsTrue (is_same left ROOT))) × (after_element cells left < length cells)

-- past an element and all cells directly behind it that have greater stamps than a new one
abbrev pub skip_from : {T : Type 0} → List (Cell T) → Stamp → Stamp → ℕ
skip_from cells left new =
    let after = after_element cells left in
    after + length (take_while (λ cell. is_before new cell.stamp) (drop after cells))

-- what is asked of the place of new cells: the element that they go behind stands there, the last newline stays the last cell
pub record IsPlaced {T : Type 0} (cells : List (Cell T)) (after new : Stamp) : Type 0 where
  pub stands : StandsBefore cells after
  pub above : is_before FINAL new ≡ true
  pub within : skip_from cells after new < length cells

-- more elements in a list, at a position
abbrev pub put_at : {X : Type 0} → ℕ → List X → List X → List X
put_at position new list = take position list ++ (new ++ drop position list)

-- SPANS

-- a cell with a stamp of a span is gone, another is as it was
abbrev pub gone_in : {T : Type 0} → Span → Cell T → Cell T
gone_in span cell = if is_in_span span cell.stamp then record cell { gone = true } else cell

-- a cell with a stamp of a span has a state, another is as it was
abbrev pub state_in : {T : Type 0} → Span → T → Cell T → Cell T
state_in span state cell = if is_in_span span cell.stamp then with_state state cell else cell

-- RUNS

-- A cell goes on from another one, so many cells behind it: it has a stamp of its site with a count so much greater, is gone or
-- visible as that one is, and is in its state.
pub record GoesOn {T : Type 0} (first : Cell T) (n : ℕ) (cell : Cell T) : Type 0 where
  pub stamp : cell.stamp ≡ record { count = first.stamp.count + n; site = first.stamp.site }
  pub gone : cell.gone ≡ first.gone
  pub state : cell.state ≡ first.state

-- the cells directly behind one go on from it, up to the one of a count
pub record GoOnTo {T : Type 0} (cells : List (Cell T)) (first : Cell T) (last : ℕ) : Type 0 where
  pub position : ℕ
  pub here : position_of cells first.stamp ≡ Some position
  pub each : (n : ℕ) → first.stamp.count + n ≤ last → (cell : Cell T) × (slice_get cells (position + n) ≡ Some cell) × GoesOn first n cell

-- ROOM

-- how many new cells and how many cuts of runs there is room for, and for how many tags of a table of states
pub record Room : Type 0 where
  pub cells : ℕ
  pub cuts : ℕ
  pub tags : ℕ

-- there is room for so many
abbrev pub HasRoom : Room → ℕ → ℕ → ℕ → Type 0
HasRoom room cells cuts tags = (cells ≤ room.cells) × (cuts ≤ room.cuts) × (tags ≤ room.tags)

-- at most so much room was spent, and none of that for tags
abbrev pub Spends : Room → Room → ℕ → ℕ → Type 0
Spends old new cells cuts = (old.cells ≤ new.cells + cells) × (old.cuts ≤ new.cuts + cuts) × (old.tags ≤ new.tags)
