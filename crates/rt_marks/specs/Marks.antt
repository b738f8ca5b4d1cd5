-- Marks: names in the gaps of a text, each with a gravity. The gap of a place is the one before the character there, and the
-- gap of the text's end the one after the last character. Contracts see the marks of a site as the list of them in order.
use Rattle.std.specs.Prelude.{◌≡◌, ℕ, zero, suc, ◌+◌, ◌-◌, ◌==◌, ◌&&◌, ◌||◌, nat_le, nat_lt, List, [], ◌∷◌, codes, map, find, filter, Bool, true, false, not, if◌then◌else◌, Option, Some, None, option_and_then}
use Rattle.std.specs.List.{list_any, AllByRecursion}
use Rattle.std.specs.Option.{option_map_or, option_or}
use Rattle.std.specs.Ordering.{nat_cmp, ordering_then, is_lt}
use Rattle.std.specs.Str.{bytes_eq}
use Rattle.std.specs.declared.cmp.Ordering.{Ordering}
use Rattle.std.specs.declared.cmp.Ordering.TheVariants.{Less, Equal, Greater}
pub use Rattle.rt_stamps.specs.Names.{IsName, name_order}
use Rattle.rt_marks.specs.declared.gravity.Gravity.{Gravity}
use Rattle.rt_marks.specs.declared.gravity.Gravity.TheVariants.{Left, Right}

-- the bytes of a mark's name, the place of its gap, and its gravity
pub record Mark : Type 0 where
  pub name : List ℕ
  pub place : ℕ
  pub gravity : Gravity

-- GRAVITIES

-- a gravity as it is written
abbrev pub gravity_word : Gravity → List ℕ
gravity_word Left = codes "left"
gravity_word Right = codes "right"

-- the gravity that a word names
abbrev pub gravity_of : List ℕ → Option Gravity
gravity_of word =
    if bytes_eq word (gravity_word Left) then Some Left
    else if bytes_eq word (gravity_word Right) then Some Right
    else None

-- THE ORDER OF MARKS

abbrev pub gravity_order : Gravity → Gravity → Ordering
gravity_order Left Left = Equal
gravity_order Left Right = Less
gravity_order Right Left = Greater
gravity_order Right Right = Equal

-- by place, then left gravity first, then by the bytes of the names
abbrev pub mark_order : Mark → Mark → Ordering
mark_order a b = ordering_then (nat_cmp a.place b.place) (ordering_then (gravity_order a.gravity b.gravity) (name_order a.name b.name))

abbrev pub comes_before : Mark → Mark → Bool
comes_before a b = is_lt (mark_order a b)

-- each mark comes before all behind it
abbrev pub AreInOrder : List Mark → Type 0
AreInOrder [] = Unit {0}
AreInOrder (m ∷ marks) = AllByRecursion (λ x. comes_before m x ≡ true) marks × AreInOrder marks

-- marks in order, and one more: it stands behind those that come before it
abbrev pub with_mark : Mark → List Mark → List Mark
with_mark m [] = m ∷ []
with_mark m (x ∷ marks) = if comes_before x m then x ∷ with_mark m marks else m ∷ x ∷ marks

-- marks, put in order
abbrev pub in_order : List Mark → List Mark
in_order [] = []
in_order (m ∷ marks) = with_mark m (in_order marks)

-- NAMES

abbrev pub is_named : List ℕ → Mark → Bool
is_named name m = bytes_eq m.name name

-- the mark of a name
abbrev pub mark_of_name : List ℕ → List Mark → Option Mark
mark_of_name name marks = find (is_named name) marks

-- the marks without that of a name
abbrev pub without_mark : List ℕ → List Mark → List Mark
without_mark name marks = filter (λ m. not (is_named name m)) marks

-- a mark has one of some names
abbrev pub is_one_of : List (List ℕ) → Mark → Bool
is_one_of names m = list_any (λ name. is_named name m) names

-- the marks without those of some names
abbrev pub without_all : List (List ℕ) → List Mark → List Mark
without_all names marks = filter (λ m. not (is_one_of names m)) marks

-- no two marks have one name
abbrev pub HaveOwnNames : List Mark → Type 0
HaveOwnNames [] = Unit {0}
HaveOwnNames (m ∷ marks) = (mark_of_name m.name marks ≡ None) × HaveOwnNames marks

-- names by their bytes, each once
abbrev pub AreAscending : List (List ℕ) → Type 0
AreAscending [] = Unit {0}
AreAscending (name ∷ names) = AllByRecursion (λ x. is_lt (name_order name x) ≡ true) names × AreAscending names

-- a mark put in for the one of its name, if there is one
abbrev pub put_mark : Mark → List Mark → List Mark
put_mark m marks = with_mark m (without_mark m.name marks)

-- EDITS OF MARKS

-- a mark set again keeps its gravity, and a new one has right gravity
abbrev pub gravity_or_right : List ℕ → List Mark → Gravity
gravity_or_right name marks = option_map_or (λ m. m.gravity) (mark_of_name name marks) Right

abbrev pub marks_set : List ℕ → ℕ → List Mark → List Mark
marks_set name place marks = put_mark (record { name = name; place = place; gravity = gravity_or_right name marks }) marks

-- the mark of a name has a gravity then, if there is one; the other marks stay
abbrev pub marks_with_gravity : List ℕ → Gravity → List Mark → List Mark
marks_with_gravity name gravity marks = option_map_or (λ m. put_mark (record m { gravity = gravity }) marks) (mark_of_name name marks) marks

-- EDITS OF THE TEXT

abbrev pub is_right : Gravity → Bool
is_right Left = false
is_right Right = true

-- A mark behind the place where text is inserted moves on with its character. Of the marks at the place those of left
-- gravity stay before the text, and those of right gravity stand behind it (Tk text manual, mark gravity).
abbrev pub is_moved_on : ℕ → ℕ → Gravity → Bool
is_moved_on place p gravity = nat_lt place p || ((p == place) && is_right gravity)

-- where a mark at a place p with some gravity stands after n characters were inserted at a place
abbrev pub place_moved : ℕ → ℕ → ℕ → Gravity → ℕ
place_moved place n p gravity = if is_moved_on place p gravity then p + n else p

-- the place of a mark after n characters were inserted at a place
abbrev pub place_inserted : ℕ → ℕ → Mark → ℕ
place_inserted place n m = place_moved place n m.place m.gravity

abbrev pub mark_inserted : ℕ → ℕ → Mark → Mark
mark_inserted place n m = record m { place = place_inserted place n m }

-- the marks then: they stay in order
abbrev pub marks_inserted : ℕ → ℕ → List Mark → List Mark
marks_inserted place n marks = map (mark_inserted place n) marks

-- where a place is after the n characters from another place on were removed: the gaps within become one
abbrev pub place_removed : ℕ → ℕ → ℕ → ℕ
place_removed place n p = if nat_le p place then p else if nat_le p (place + n) then place else p - n

abbrev pub mark_removed : ℕ → ℕ → Mark → Mark
mark_removed place n m = record m { place = place_removed place n m.place }

-- the marks then: those of the gaps that became one are put in order
abbrev pub marks_removed : ℕ → ℕ → List Mark → List Mark
marks_removed place n marks = in_order (map (mark_removed place n) marks)

-- Where a place is after characters here and there were removed, those at the places that pass a test: as many characters
-- stand before it as are left of those that stood before it.
abbrev pub place_left : (ℕ → Bool) → ℕ → ℕ
place_left removed zero = 0
place_left removed (suc p) = place_left removed p + (if removed p then 0 else 1)

abbrev pub mark_left : (ℕ → Bool) → Mark → Mark
mark_left removed m = record m { place = place_left removed m.place }

-- the marks then: those of gaps that became one are put in order
abbrev pub marks_left : (ℕ → Bool) → List Mark → List Mark
marks_left removed marks = in_order (map (mark_left removed) marks)

-- a place is one of those from a first one up to before another, or passes a test
abbrev pub is_within_or : ℕ → ℕ → (ℕ → Bool) → ℕ → Bool
is_within_or from to removed p = (nat_le from p && nat_lt p to) || removed p

-- LOOKING ABOUT

-- the last mark that passes a test
abbrev pub find_last : (Mark → Bool) → List Mark → Option Mark
find_last test [] = None
find_last test (m ∷ marks) = option_or (find_last test marks) (if test m then Some m else None)

-- the mark after that of a name
abbrev pub mark_after : List ℕ → List Mark → Option Mark
mark_after name marks = option_and_then (λ m. find (comes_before m) marks) (mark_of_name name marks)

-- the mark before that of a name
abbrev pub mark_before : List ℕ → List Mark → Option Mark
mark_before name marks = option_and_then (λ m. find_last (λ x. comes_before x m) marks) (mark_of_name name marks)

-- the first mark at or after a place
abbrev pub first_mark_at : ℕ → List Mark → Option Mark
first_mark_at place marks = find (λ m. nat_le place m.place) marks

-- the last mark before a place
abbrev pub last_mark_before : ℕ → List Mark → Option Mark
last_mark_before place marks = find_last (λ m. nat_lt m.place place) marks
