-- A working copy has only some of the cells of a text: where its characters stand in the whole text.
use Rattle.std.specs.Prelude.{◌≡◌, ℕ, ◌+◌, ◌≤◌, ◌&&◌, not, Bool, true, List, filter, length, map, option_map, take_while, unwrap_or, if◌then◌else◌}
use Rattle.std.specs.List.{AllByRecursion}
use Rattle.rt_stamps.specs.declared.limits.TheConstants.{MOST_CELLS}
use Rattle.rt_stamps.specs.declared.stamp.Stamp.{Stamp}
use Rattle.rt_stamps.specs.declared.stamp.TheConstants.{ROOT}
use Rattle.rt_stamps.specs.Stamps.{is_same}
use Rattle.rt_store.specs.declared.cell.Cell.{Cell}
use Rattle.rt_store.specs.Cells.{position_of, stamps_of, visible_before}
use Rattle.rt_store.specs.Spans.{is_among}
use Rattle.rt_spans.specs.Shown.{SpanMapValue, value_of}
use Rattle.rt_plans.specs.declared.range.Range.{Range}
use Rattle.rt_plans.specs.DocValue.{DocValue}
use Rattle.rt_undo.specs.Actions.{Action, Removed}

-- a document, and the stamps of those of its cells, now and later, that a working copy has
pub record Portion : Type 0 where
  pub doc : DocValue
  pub has : Stamp → Bool

-- all of some stamps are such ones, those of removed characters, and those of an action
abbrev pub HasEach : Portion → List Stamp → Type 0
HasEach part stamps = AllByRecursion (λ s. part.has s ≡ true) stamps

abbrev pub HasRemoved : {T : Type 0} → Portion → List (Removed T) → Type 0
HasRemoved part removed = AllByRecursion (λ r. part.has r.stamp ≡ true) removed

abbrev pub HasAction : {T : Type 0} → Portion → Action T → Type 0
HasAction part action = HasEach part action.inserted × HasRemoved part action.removed

abbrev pub HasGroup : {T : Type 0} → Portion → List (Action T) → Type 0
HasGroup part group = AllByRecursion (HasAction part) group

-- the cells that have such stamps
abbrev pub only : {T : Type 0} → (Stamp → Bool) → List (Cell T) → List (Cell T)
only has cells = filter (λ cell. has cell.stamp) cells

-- PLACES

-- how many visible cells stand before a stamp's cell, and how many of these the copy hasn't
abbrev pub visible_before_stamp : {T : Type 0} → List (Cell T) → Stamp → ℕ
visible_before_stamp cells stamp = unwrap_or (option_map (visible_before cells) (position_of cells stamp)) 0

abbrev pub others_before : {T : Type 0} → (Stamp → Bool) → List (Cell T) → Stamp → ℕ
others_before has cells stamp =
    length (filter (λ cell. not cell.gone && not (has cell.stamp)) (take_while (λ cell. not (is_same cell.stamp stamp)) cells))

-- the offset of a stamp, and that of what stands directly behind an element
abbrev pub offset_of : SpanMapValue ℕ → Stamp → ℕ
offset_of offsets stamp = unwrap_or (value_of offsets stamp) 0

abbrev pub offset_behind : SpanMapValue ℕ → Stamp → ℕ
offset_behind offsets left = if is_same left ROOT then 0 else offset_of offsets left

-- the offset of a cell that the copy has is how many visible characters that it hasn't stand before
abbrev pub AreOffsets : {T : Type 0} → SpanMapValue ℕ → (Stamp → Bool) → List (Cell T) → Type 0
AreOffsets offsets has cells =
    (s : Stamp) → has s ≡ true → is_among (stamps_of cells) s ≡ true → offset_of offsets s ≡ others_before has cells s

abbrev pub AreSmall : SpanMapValue ℕ → Type 0
AreSmall offsets = (s : Stamp) → offset_of offsets s ≤ MOST_CELLS

-- the places in the whole text of characters of a copy, each as a range
abbrev pub whole_ranges : {T : Type 0} → SpanMapValue ℕ → List (Cell T) → List Stamp → List Range
whole_ranges offsets copy stamps =
    map (λ s. record { from = visible_before_stamp copy s + offset_of offsets s; to = visible_before_stamp copy s + offset_of offsets s + 1 }) stamps
