-- A table's vectors, as its definitions read them.
use Rattle.std.proofs.Common.{◌≡◌, ℕ, zero, suc, ◌+◌, ◌-◌, ◌<◌, List, [], ◌∷◌, ◌++◌, map, length, get_or, set, take, sym, ap, ◌∙◌, subst, arith}
use Rattle.std.specs.List.{swap_remove}
use Rattle.std.proofs.lemmas.List.{length-map, length-set, map-append, map_more, map-set, take-map}
use Rattle.rt_marks.specs.declared.mark.Mark.{Mark as KeptMark}
use Rattle.rt_marks.specs.Marks.{Mark}
use Rattle.rt_marks.specs.Seen.{seen_mark, seen_all, in_slot, in_slots, names_of_marks, IsEachOnce}
use Rattle.rt_marks.proofs.Slots.{each_index, slot_kept}
use Rattle.rt_marks.proofs.Times.{each_below}
use Rattle.rt_marks.proofs.Changes.{brought_down}

-- the mark that was read in a slot
pub slot_read : (items : List KeptMark) (i : ℕ) (m : KeptMark) → i < length items → m ≡ get_or items i m → in_slot (seen_all items) i ≡ seen_mark m
slot_read items i m l e = slot_kept items i m l ∙ sym (ap seen_mark e)

pub seen_length : (items : List KeptMark) → length (seen_all items) ≡ length items
seen_length items = length-map items seen_mark

-- a number that was read
pub number_read : (slots : List ℕ) (i x d : ℕ) → i < length slots → x ≡ get_or slots i x → get_or slots i d ≡ x
number_read [] i x d l e = absurd (omega (arith, l))
number_read (s ∷ slots) zero x d l e = sym e
number_read (s ∷ slots) (suc i) x d l e = number_read slots i x d (omega (arith, l)) e

-- the last slot's mark in another slot
pub seen_down : (items : List KeptMark) (slot last : ℕ) (x : KeptMark) → length items ≡ last + 1 → seen_all (swap_remove items slot x) ≡ brought_down (seen_all items) slot last
seen_down items slot last x n =
    let e : length items - 1 ≡ last = omega (arith, n) in
    sym (take-map seen_mark (length items - 1) (set items slot (get_or items (length items - 1) x)))
    ∙ ap (take (length items - 1)) (map-set seen_mark items slot (get_or items (length items - 1) x))
    ∙ ap (λ v. take v (set (seen_all items) slot (seen_mark (get_or items v x)))) e
    ∙ ap (λ v. take last (set (seen_all items) slot v)) (sym (slot_kept items last x (omega (arith, n))))

pub seen_push : (items : List KeptMark) (m : KeptMark) → seen_all (items ++ m ∷ []) ≡ seen_all items ++ seen_mark m ∷ []
seen_push items m = map-append seen_mark items (m ∷ [])

pub kept_there : (items : List KeptMark) (i : ℕ) → i < length (seen_all items) → i < length items
kept_there items i l = subst (λ v. i < v) (seen_length items) l

pub there_kept : (marks : List Mark) (items : List KeptMark) (i : ℕ) (m : Mark) → seen_all items ≡ set marks i m → i < length marks → i < length items
there_kept marks items i m e l = kept_there items i (subst (λ v. i < v) (sym (ap length e ∙ length-set marks i m)) l)

-- a number that was read in a list is that of a slot
pub slot_there : (marks : List Mark) (slots : List ℕ) (i slot : ℕ) → IsEachOnce (length marks) slots → i < length slots → slot ≡ get_or slots i slot → slot < length marks
slot_there marks slots i slot once l e = subst (λ v. v < length marks) (sym e) (each_index (λ s. s < length marks) slots i slot l (each_below (length marks) slots once))

pub last_there : (marks : List Mark) (slot n : ℕ) → n ≡ length marks → slot < length marks → n - 1 < length marks
last_there marks slot n e l = omega (arith, e, l)

-- one name more
pub names_pushed : {X : Type 0} (bytes : X → List ℕ) (items now : List X) (x : X) (marks : List Mark) (slots : List ℕ) (i slot : ℕ) → now ≡ items ++ x ∷ [] → map bytes items ≡ names_of_marks (in_slots marks (take i slots)) → bytes x ≡ (in_slot marks slot).name → slot ≡ get_or slots i slot → i < length slots → map bytes now ≡ names_of_marks (in_slots marks (take (i + 1) slots))
names_pushed bytes items now x marks slots i slot e h k r l =
    let name : Mark → List ℕ = λ m. m.name in
    let f = in_slot marks in
    ap (map bytes) e ∙ map-append bytes items (x ∷ [])
    ∙ (λ j. h j ++ (k ∙ ap (λ v. (f v).name) r) j ∷ [])
    ∙ sym (ap names_of_marks (map_more f slots i slot l) ∙ map-append name (map f (take i slots)) (f (get_or slots i slot) ∷ []))

-- the marks of the first slots
pub seen_cut : (n : ℕ) (items now : List KeptMark) → now ≡ take n items → seen_all now ≡ take n (seen_all items)
seen_cut n items now e = ap seen_all e ∙ sym (take-map seen_mark n items)
