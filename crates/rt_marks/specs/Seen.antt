-- What contracts see of the marks that are kept.
use Rattle.std.specs.Prelude.{◌≡◌, ℕ, ◌+◌, ◌<◌, ◌≤◌, ◌==◌, ◌&&◌, ◌++◌, nat_lt, List, [], ◌∷◌, length, map, slice_index_or, string_bytes, Bool, true, false, take, drop, if◌then◌else◌}
use Rattle.std.specs.List.{AllByRecursion}
use Rattle.std.specs.Ordering.{is_lt}
use Rattle.rt_marks.specs.declared.gravity.Gravity.{Gravity}
use Rattle.rt_marks.specs.declared.gravity.Gravity.TheVariants.{Left, Right}
use Rattle.rt_marks.specs.declared.mark.Mark.{Mark as KeptMark}
use Rattle.rt_marks.specs.declared.mark_ref.MarkRef.{MarkRef}
use Rattle.rt_marks.specs.Marks.{Mark, AreAscending, AreInOrder, name_order}

abbrev pub seen_mark : KeptMark → Mark
seen_mark m = record { name = string_bytes m.name; place = m.place; gravity = m.gravity }

-- the mark that stands at a spot, or would
abbrev pub spotted : MarkRef → Mark
spotted s = record { name = s.name.now; place = s.place; gravity = s.gravity }

abbrev pub seen_all : List KeptMark → List Mark
seen_all marks = map seen_mark marks

abbrev pub names_of_marks : List Mark → List (List ℕ)
names_of_marks marks = map (λ m. m.name) marks

-- a name that isn't there would stand at an index of names that ascend
abbrev pub IsGap : List ℕ → List (List ℕ) → ℕ → Type 0
IsGap name names i =
    AllByRecursion (λ x. is_lt (name_order x name) ≡ true) (take i names)
    × AllByRecursion (λ x. is_lt (name_order name x) ≡ true) (drop i names)

-- SLOTS: marks stand in slots, and two lists have the slots' numbers, one by the names, one in the order of marks

-- what a slot that isn't there would have
abbrev pub no_mark : Mark
no_mark = record { name = []; place = 0; gravity = Left }

abbrev pub in_slot : List Mark → ℕ → Mark
in_slot marks slot = slice_index_or marks slot no_mark

-- the marks of some slots
abbrev pub in_slots : List Mark → List ℕ → List Mark
in_slots marks slots = map (in_slot marks) slots

-- how often a slot's number stands in a list
abbrev pub slot_times : ℕ → List ℕ → ℕ
slot_times slot [] = 0
slot_times slot (s ∷ slots) = (if s == slot then 1 else 0) + slot_times slot slots

-- the number of each of so many slots, once
abbrev pub IsEachOnce : ℕ → List ℕ → Type 0
IsEachOnce n slots = (slot : ℕ) → slot_times slot slots ≡ (if nat_lt slot n then 1 else 0)

-- numbers of slots, whose marks are in order
pub record IsOrder (marks : List Mark) (slots : List ℕ) : Type 0 where
  pub there : AllByRecursion (λ slot. slot < length marks) slots
  pub ordered : AreInOrder (in_slots marks slots)

-- each slot's number stands once in both lists, in the one by the bytes of the names, in the other in the order of marks
pub record IsIndexed (marks : List Mark) (by_name in_order : List ℕ) : Type 0 where
  pub names_once : IsEachOnce (length marks) by_name
  pub order_once : IsEachOnce (length marks) in_order
  pub ascending : AreAscending (names_of_marks (in_slots marks by_name))
  pub ordered : AreInOrder (in_slots marks in_order)

-- a list parts at an index: the marks before it pass a test, the others don't
pub record MarksPartAt (test : Mark → Bool) (marks : List Mark) (i : ℕ) : Type 0 where
  pub within : i ≤ length marks
  pub front : AllByRecursion (λ m. test m ≡ true) (take i marks)
  pub back : AllByRecursion (λ m. test m ≡ false) (drop i marks)

-- the marks of the first so many slots pass a test, and those behind them don't
abbrev pub SlotsPart : (Mark → Bool) → List Mark → ℕ → Type 0
SlotsPart test marks n = (slot : ℕ) → slot < length marks → test (in_slot marks slot) ≡ nat_lt slot n

-- THE MARKS THAT COME TO STAND AT ONE PLACE

abbrev pub same_gravity : Gravity → Gravity → Bool
same_gravity Left Left = true
same_gravity Left Right = false
same_gravity Right Left = false
same_gravity Right Right = true

-- a mark stands at a place with a gravity
abbrev pub stands : ℕ → Gravity → Mark → Bool
stands place gravity m = (m.place == place) && same_gravity m.gravity gravity

abbrev pub slot_stands : ℕ → Gravity → List Mark → ℕ → Bool
slot_stands place gravity marks slot = nat_lt slot (length marks) && stands place gravity (in_slot marks slot)

-- numbers written over others from an index on
abbrev pub overwritten : ℕ → List ℕ → List ℕ → List ℕ
overwritten at numbers old = take at old ++ numbers ++ drop (at + length numbers) old
