-- What binary searches find in a table.
use Rattle.std.proofs.Common.{◌≡◌, ℕ, zero, suc, ◌-◌, ◌<◌, ◌≤◌, ◌==◌, ◌&&◌, nat_lt, nat_le, List, [], ◌∷◌, ◌++◌, map, find, length, get_or, slice_get, take, drop, true, false, not, refl, sym, ap, ◌∙◌, Bool, cond, subst, arith, add-one, ◌⊎◌, inl, inr, Some, None, Result, Ok, Err, IfOk, IfErr}
use Rattle.std.specs.Ordering.{is_lt}
use Rattle.std.specs.Option.{option_or}
use Rattle.std.specs.List.{HoldsAt, AllByRecursion}
use Rattle.std.specs.List.Sorted.{IsBinarySearchResult, IsPartitionPoint, IsPartitionedBy, IsSortedBy}
use Rattle.std.specs.FinMap.{slice_cmp-IsAntisymmetric, nat_cmp-IsAntisymmetric}
use Rattle.std.proofs.lemmas.Cmp.{nat_list_cmp_total}
use Rattle.std.proofs.lemmas.Bool.{eqb-true}
use Rattle.std.proofs.lemmas.Bool.Decides.{nat_tests}
use Rattle.std.proofs.lemmas.List.{map-append, length-map, set_split, set-get_or}
use Rattle.std.proofs.lemmas.List.Sorted.{searchable_from_sorted}
use Rattle.std.proofs.lemmas.Option.{slice_get-get_or}
use Rattle.rt_marks.specs.Marks
use Rattle.rt_marks.specs.Marks.{Mark, name_order, comes_before, AreInOrder, mark_of_name, AreAscending, find_last, first_mark_at, last_mark_before}
use Rattle.rt_marks.specs.Seen
use Rattle.rt_marks.specs.Seen.{names_of_marks, no_mark, in_slot, in_slots, IsOrder, IsIndexed, MarksPartAt, IsGap}
use Rattle.rt_marks.proofs.Order.{lt_asym, lt_irrefl, before_trans}
use Rattle.rt_marks.proofs.InOrder.{split}
use Rattle.rt_marks.proofs.Names.{clash, named_middle}
use Rattle.rt_marks.proofs.ByName.{greater, none_in_gap}
use Rattle.rt_marks.proofs.Moving.{places_decide}
use Rattle.rt_marks.proofs.Times.{each_there, not_once, once_below, present, times_at}
use Rattle.rt_marks.proofs.Slots.{each_from, each_index, own_by_name, view_named}

-- IN THE ORDER

order_at : (f : ℕ → Mark) (xs : List ℕ) (i j d : ℕ) → AreInOrder (map f xs) → i < j → j < length xs → comes_before (f (get_or xs i d)) (f (get_or xs j d)) ≡ true
order_at f [] i j d h l k = absurd (omega (arith, k))
order_at f (x ∷ xs) i zero d h l k = absurd (omega (arith, l))
order_at f (x ∷ xs) zero (suc j) d h l k = each_index (λ s. comes_before (f x) (f s) ≡ true) xs j d (omega (arith, k)) (each_from f (λ m. comes_before (f x) m ≡ true) xs h.0)
order_at f (x ∷ xs) (suc i) (suc j) d h l k = order_at f xs i j d h.1 (omega (arith, l)) (omega (arith, k))

take_each : (f : ℕ → Mark) (P : Mark → Type 0) (xs : List ℕ) (i : ℕ) → ((k d : ℕ) → k < i → k < length xs → P (f (get_or xs k d))) → AllByRecursion P (take i (map f xs))
take_each f P xs zero h = tt
take_each f P [] (suc i) h = tt
take_each f P (x ∷ xs) (suc i) h = (h 0 x (omega arith) (omega arith), take_each f P xs i (λ k d l m. h (suc k) d (omega (arith, l)) (omega (arith, m))))

drop_each : (f : ℕ → Mark) (P : Mark → Type 0) (xs : List ℕ) (i : ℕ) → ((k d : ℕ) → i ≤ k → k < length xs → P (f (get_or xs k d))) → AllByRecursion P (drop i (map f xs))
drop_each f P [] zero h = tt
drop_each f P (x ∷ xs) zero h = (h 0 x (omega arith) (omega arith), drop_each f P xs zero (λ k d l m. h (suc k) d (omega (arith, l)) (omega (arith, m))))
drop_each f P [] (suc i) h = tt
drop_each f P (x ∷ xs) (suc i) h = drop_each f P xs i (λ k d l m. h (suc k) d (omega (arith, l)) (omega (arith, m)))

second : (a b : Bool) → (a && b) ≡ true → b ≡ true
second true b h = h
second false b h = absurd (clash false h refl)

both : (a b : Bool) → a ≡ true → b ≡ true → (a && b) ≡ true
both true b h k = k
both false b h k = absurd (clash false h refl)

fails : (a b : Bool) → a ≡ true → (a && b) ≡ false → b ≡ false
fails true b h k = k
fails false b h k = absurd (clash false h refl)

pub within : (s n : ℕ) → s < n → nat_lt s n ≡ true
within s n l = grind (arith, nat_tests)

same_or_less : (i j : ℕ) → i ≤ j → (i < j) ⊎ (i ≡ j)
same_or_less i j h = split (nat_lt i j) (λ t. inl (less i j t)) (λ f. inr (same i j h f)) where
  less : (i j : ℕ) → nat_lt i j ≡ true → i < j
  less i j t = grind (arith, nat_tests)

  same : (i j : ℕ) → i ≤ j → nat_lt i j ≡ false → i ≡ j
  same i j h f = grind (arith, nat_tests)

-- a test that passes what comes before a mark that passes
abbrev pub IsDownward : (Mark → Bool) → Type 0
IsDownward test = (a b : Mark) → comes_before a b ≡ true → test b ≡ true → test a ≡ true

abbrev pub of_slot : (Mark → Bool) → List Mark → ℕ → Bool
of_slot test marks slot = nat_lt slot (length marks) && test (in_slot marks slot)

pub parts_from : (test : Mark → Bool) (marks : List Mark) (slots : List ℕ) (i : ℕ) → IsOrder marks slots → IsDownward test → i ≤ length slots → (IsPartitionedBy (of_slot test marks) slots → IsPartitionPoint (λ y. of_slot test marks y ≡ true) (λ y. of_slot test marks y ≡ false) slots i) → MarksPartAt test (in_slots marks slots) i
parts_from test marks slots i o down l h = record {
  within = subst (λ v. i ≤ v) (sym (length-map slots f)) l;
  front = take_each f (λ m. test m ≡ true) slots i (λ k d less m. second _ _ (parted.0 k d (omega arith) less));
  back = drop_each f (λ m. test m ≡ false) slots i (λ k d more m. fails _ _ (there k d m) (parted.1 k d more m));
}
  where
    f : ℕ → Mark
    f = in_slot marks

    there : (k d : ℕ) → k < length slots → nat_lt (get_or slots k d) (length marks) ≡ true
    there k d m = within (get_or slots k d) (length marks) (each_index (λ s. s < length marks) slots k d m o.there)

    is_parted : IsPartitionedBy (of_slot test marks) slots
    is_parted a b d le m t = elim (same_or_less a b le) as (λ _. of_slot test marks (get_or slots a d) ≡ true) [
      | inl less ↦ both _ _ (there a d (omega (arith, less, m))) (down (in_slot marks (get_or slots a d)) (in_slot marks (get_or slots b d)) (order_at (in_slot marks) slots a b d o.ordered less m) (second _ _ t))
      | inr same ↦ subst (λ v. of_slot test marks (get_or slots v d) ≡ true) (sym same) t
    ]

    parted : IsPartitionPoint (λ y. of_slot test marks y ≡ true) (λ y. of_slot test marks y ≡ false) slots i
    parted = h is_parted

pub before_down : (here : Mark) → IsDownward (λ m. comes_before m here)
before_down here = λ a b h t. before_trans a b here h t

pub until_down : (here : Mark) → IsDownward (λ m. not (comes_before here m))
until_down here = λ a b h t. split (comes_before here a)
    (λ s. let c = before_trans here a b s h in absurd (clash (not (comes_before here b)) t (ap not c)))
    (λ f. ap not f)

-- what comes before stands no further on
pub below_down : (place : ℕ) → IsDownward (λ m. nat_lt m.place place)
below_down place = λ a b h t. no_further a.place b.place (places a b h) t where
  places : (a b : Mark) → comes_before a b ≡ true → a.place ≤ b.place
  places a b h = elim (places_decide a.place b.place _ h) as (λ _. a.place ≤ b.place) [
    | inl less ↦ omega (arith, less)
    | inr same ↦ omega (arith, same.0)
  ]

  no_further : (x y : ℕ) → x ≤ y → nat_lt y place ≡ true → nat_lt x place ≡ true
  no_further x y l t = grind (arith, nat_tests)

-- WHERE A LIST PARTS

all_fail : (test : Mark → Bool) (marks : List Mark) → AllByRecursion (λ m. test m ≡ false) marks → find_last test marks ≡ None
all_fail test [] h = refl
all_fail test (x ∷ marks) h = (λ i. option_or (all_fail test marks h.1 i) (cond (h.0 i) (Some x) None))

-- the first that fails the test
pub found_next : (test wanted : Mark → Bool) → ((m : Mark) → wanted m ≡ not (test m)) → (marks : List Mark) (i : ℕ) → MarksPartAt test marks i → slice_get marks i ≡ find wanted marks
found_next test wanted other marks i p = by marks i p.within p.front p.back where
  by : (marks : List Mark) (i : ℕ) → i ≤ length marks → AllByRecursion (λ m. test m ≡ true) (take i marks) → AllByRecursion (λ m. test m ≡ false) (drop i marks) → slice_get marks i ≡ find wanted marks
  by [] i l f b = refl
  by (x ∷ marks) zero l f b = sym (ap (λ v. cond v (Some x) (find wanted marks)) (other x ∙ ap not b.0))
  by (x ∷ marks) (suc i) l f b = by marks i (omega (arith, l)) f.1 b ∙ sym (ap (λ v. cond v (Some x) (find wanted marks)) (other x ∙ ap not f.0))

pub found_none : (test : Mark → Bool) (marks : List Mark) (i : ℕ) → MarksPartAt test marks i → i ≡ 0 → None ≡ find_last test marks
found_none test marks i p e = sym (all_fail test marks (subst (λ v. AllByRecursion (λ m. test m ≡ false) (drop v marks)) e p.back))

-- the last that passes it
pub found_last : (test : Mark → Bool) (marks : List Mark) (i : ℕ) → MarksPartAt test marks i → 0 < i → slice_get marks (i - 1) ≡ find_last test marks
found_last test marks zero p l = absurd (omega (arith, l))
found_last test marks (suc k) p l = ap (λ v. slice_get marks v) (one_less k) ∙ sym (by marks k p.within p.front p.back) where
  one_less : (k : ℕ) → suc k - 1 ≡ k
  one_less k = omega arith

  by : (marks : List Mark) (k : ℕ) → suc k ≤ length marks → AllByRecursion (λ m. test m ≡ true) (take (suc k) marks) → AllByRecursion (λ m. test m ≡ false) (drop (suc k) marks) → find_last test marks ≡ slice_get marks k
  by [] k l f b = absurd (omega (arith, l))
  by (x ∷ marks) zero l f b = (λ i. option_or (all_fail test marks b i) (cond (f.0 i) (Some x) None))
  by (x ∷ marks) (suc k) l f b =
      let some = slice_get-get_or marks k no_mark (omega (arith, l)) in
      ap (λ v. option_or v (cond (test x) (Some x) None)) (by marks k (omega (arith, l)) f.1 b ∙ some) ∙ sym some

-- BY NAME

rises : (f : ℕ → Mark) (xs : List ℕ) → AreAscending (names_of_marks (map f xs)) → (k d : ℕ) → suc k < length xs → is_lt (name_order (f (get_or xs (suc k) d)).name (f (get_or xs k d)).name) ≡ false
rises f [] h k d l = absurd (omega (arith, l))
rises f (x ∷ []) h k d l = absurd (omega (arith, l))
rises f (x ∷ y ∷ xs) h zero d l = lt_asym nat_list_cmp_total (f x).name (f y).name h.0.0
rises f (x ∷ y ∷ xs) h (suc k) d l = rises f (y ∷ xs) h.1 k d (omega (arith, l))

are_sorted : (f : ℕ → Mark) (xs : List ℕ) → AreAscending (names_of_marks (map f xs)) → IsSortedBy (λ a b. is_lt (name_order (f a).name (f b).name)) xs
are_sorted f xs h = λ k d low l. rw add-one (rises f xs h k d (omega (arith, l)))

take_names : (f : ℕ → Mark) (P : List ℕ → Type 0) (xs : List ℕ) (i : ℕ) → ((k d : ℕ) → k < i → P (f (get_or xs k d)).name) → AllByRecursion P (take i (names_of_marks (map f xs)))
take_names f P xs zero h = tt
take_names f P [] (suc i) h = tt
take_names f P (x ∷ xs) (suc i) h = (h 0 x (omega arith), take_names f P xs i (λ k d l. h (suc k) d (omega (arith, l))))

drop_names : (f : ℕ → Mark) (P : List ℕ → Type 0) (xs : List ℕ) (i : ℕ) → ((k d : ℕ) → i ≤ k → k < length xs → P (f (get_or xs k d)).name) → AllByRecursion P (drop i (names_of_marks (map f xs)))
drop_names f P [] zero h = tt
drop_names f P (x ∷ xs) zero h = (h 0 x (omega arith) (omega arith), drop_names f P xs zero (λ k d l m. h (suc k) d (omega (arith, l)) (omega (arith, m))))
drop_names f P [] (suc i) h = tt
drop_names f P (x ∷ xs) (suc i) h = drop_names f P xs i (λ k d l m. h (suc k) d (omega (arith, l)) (omega (arith, m)))

pub found_from : (name : List ℕ) (marks : List Mark) (slots : List ℕ) (r : Result ℕ ℕ) → IsBinarySearchResult (λ s. name_order (in_slot marks s).name name) slots r → IfOk r (HoldsAt (λ s. (in_slot marks s).name ≡ name) slots)
found_from name marks slots (Ok i) h = λ d. slice_cmp-IsAntisymmetric nat_cmp-IsAntisymmetric _ _ (h d)
found_from name marks slots (Err i) h = tt

pub gap_from : (name : List ℕ) (marks : List Mark) (slots : List ℕ) (r : Result ℕ ℕ) → AreAscending (names_of_marks (in_slots marks slots)) → IsBinarySearchResult (λ s. name_order (in_slot marks s).name name) slots r → IfErr r (IsGap name (names_of_marks (in_slots marks slots)))
gap_from name marks slots (Ok i) a h = tt
gap_from name marks slots (Err i) a h =
    let f = in_slot marks in
    let parted = h (searchable_from_sorted nat_list_cmp_total (λ s. (f s).name) slots name (are_sorted f slots a)) in
    let front = take_names f (λ x. is_lt (name_order x name) ≡ true) slots i (λ k d l. ap is_lt (parted.0 k d (omega arith) l)) in
    let back = drop_names f (λ x. is_lt (name_order name x) ≡ true) slots i (λ k d l m. greater name (f (get_or slots k d)).name (parted.1 k d l m)) in
    (front, back)

-- the mark of a name that was found
pub named_at : (q : List ℕ) (marks : List Mark) (by_name in_order : List ℕ) (rank d : ℕ) → IsIndexed marks by_name in_order → rank < length by_name → (in_slot marks (get_or by_name rank d)).name ≡ q → mark_of_name q (in_slots marks in_order) ≡ Some (in_slot marks (get_or by_name rank d))
named_at q marks by_name in_order rank d x l e =
    let f = in_slot marks in
    let slot = get_or by_name rank d in
    let parted : in_slots marks by_name ≡ in_slots marks (take rank by_name) ++ f slot ∷ in_slots marks (drop (suc rank) by_name) =
    ap (in_slots marks) (sym (set-get_or by_name rank d) ∙ set_split by_name rank slot l) ∙ map-append f (take rank by_name) (slot ∷ drop (suc rank) by_name) in
    view_named q marks by_name in_order x ∙ ap (mark_of_name q) parted
    ∙ named_middle q (in_slots marks (take rank by_name)) (f slot) (in_slots marks (drop (suc rank) by_name)) (subst Marks.HaveOwnNames parted (own_by_name marks by_name in_order x)) (sym e)

pub none_named : (q : List ℕ) (marks : List Mark) (by_name in_order : List ℕ) (gap : ℕ) → IsIndexed marks by_name in_order → IsGap q (names_of_marks (in_slots marks by_name)) gap → mark_of_name q (in_slots marks in_order) ≡ None
none_named q marks by_name in_order gap x g = view_named q marks by_name in_order x ∙ none_in_gap q (in_slots marks by_name) gap g

-- two slots of one name are one
pub same_slot : (marks : List Mark) (by_name in_order : List ℕ) (rank d slot : ℕ) → IsIndexed marks by_name in_order → rank < length by_name → slot < length marks → (in_slot marks (get_or by_name rank d)).name ≡ (in_slot marks slot).name → get_or by_name rank d ≡ slot
same_slot marks by_name in_order rank d slot x l k e =
    let f = in_slot marks in
    let there = times_at by_name rank (get_or by_name rank d) d l refl in
    let also : 1 ≤ Seen.slot_times slot by_name = omega (arith, once_below (length marks) by_name x.names_once slot k) in
    one_name by_name x.ascending (get_or by_name rank d) slot there also e
  where
    below_names : (x : ℕ) (xs : List ℕ) → AllByRecursion (λ y. is_lt (name_order (in_slot marks x).name y) ≡ true) (names_of_marks (map (in_slot marks) xs)) → AllByRecursion (λ y. is_lt (name_order (in_slot marks x).name (in_slot marks y).name) ≡ true) xs
    below_names x [] h = tt
    below_names x (y ∷ xs) h = (h.0, below_names x xs h.1)

    differ_names : (x t : ℕ) → is_lt (name_order (in_slot marks x).name (in_slot marks t).name) ≡ true → (in_slot marks x).name ≡ (in_slot marks t).name → ⊥
    differ_names x t h e = clash _ (subst (λ v. is_lt (name_order (in_slot marks x).name v) ≡ true) (sym e) h) (lt_irrefl nat_list_cmp_total (in_slot marks x).name)

    one_name : (xs : List ℕ) → AreAscending (names_of_marks (map (in_slot marks) xs)) → (s t : ℕ) → 1 ≤ Seen.slot_times s xs → 1 ≤ Seen.slot_times t xs → (in_slot marks s).name ≡ (in_slot marks t).name → s ≡ t
    one_name [] h s t a b e = absurd (omega (arith, a))
    one_name (x ∷ xs) h s t a b e = split (x == s)
        (λ u. split (x == t)
        (λ v. sym (eqb-true x s u) ∙ eqb-true x t v)
        (λ v. absurd (differ_names x t (each_there (λ y. is_lt (name_order (in_slot marks x).name (in_slot marks y).name) ≡ true) xs t (below_names x xs h.0) (omega (arith, b, not_once x t v)))
        (ap (λ w. (in_slot marks w).name) (eqb-true x s u) ∙ e))))
        (λ u. split (x == t)
        (λ v. absurd (differ_names x s (each_there (λ y. is_lt (name_order (in_slot marks x).name (in_slot marks y).name) ≡ true) xs s (below_names x xs h.0) (omega (arith, a, not_once x s u)))
        (ap (λ w. (in_slot marks w).name) (eqb-true x t v) ∙ sym e)))
        (λ v. one_name xs h.1 s t (omega (arith, a, not_once x s u)) (omega (arith, b, not_once x t v)) e))

pub rank_found : (marks : List Mark) (by_name in_order : List ℕ) (slot gap : ℕ) → IsIndexed marks by_name in_order → slot < length marks → IsGap (in_slot marks slot).name (names_of_marks (in_slots marks by_name)) gap → ⊥
rank_found marks by_name in_order slot gap x l g =
    let r = present slot by_name (omega (arith, once_below (length marks) by_name x.names_once slot l)) in
    let f = in_slot marks in
    let parted : in_slots marks by_name ≡ map f r.front ++ f slot ∷ map f r.back = ap (map f) r.is ∙ map-append f r.front (slot ∷ r.back) in
    let some = ap (mark_of_name (f slot).name) parted ∙ named_middle (f slot).name (map f r.front) (f slot) (map f r.back) (subst Marks.HaveOwnNames parted (own_by_name marks by_name in_order x)) refl in
    let none = none_in_gap (f slot).name (in_slots marks by_name) gap g in
    let c : Some (f slot) ≡ None = sym some ∙ none in cc

pub twice : (b : Bool) → b ≡ not (not b)
twice true = refl
twice false = refl

pub turned : (place p : ℕ) → nat_le place p ≡ not (nat_lt p place)
turned place p = grind (arith, nat_tests)
