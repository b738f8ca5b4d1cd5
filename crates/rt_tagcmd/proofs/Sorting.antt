-- Marks that are put in order by a sort, and those of a stretch among them.
use Rattle.std.proofs.Common.{◌≡◌, ℕ, zero, suc, ◌+◌, ◌<◌, ◌≤◌, ◌&&◌, List, [], ◌∷◌, ◌++◌, map, filter, length, true, false, refl, sym, ap, ◌∙◌, Bool, cond, arith, subst}
use Rattle.std.specs.List.{AllByRecursion, swap}
use Rattle.std.specs.List.Sorted.{IsPermutation, IsSortedBy}
use Rattle.std.specs.Prelude.{nat_le, nat_lt, slice_index_or, slice_set}
use Rattle.std.proofs.lemmas.List.Sorted.{IsPermutation-keeps, IsPermutation-map}
use Rattle.std.proofs.lemmas.Bool.{cond-false, cond-true, le-ltb}
use Rattle.std.proofs.lemmas.Bool.Decides.{nat_tests}
use Rattle.std.proofs.lemmas.List.{append-nil}
use Rattle.rt_marks.specs.declared.mark_ref.MarkRef.{MarkRef}
use Rattle.rt_marks.specs.Marks.{Mark, comes_before, in_order, with_mark}
use Rattle.rt_marks.specs.Seen.{spotted}
use Rattle.rt_marks.proofs.InOrder.{between, each_with, in_order_middle, split, with_comm, with_here, with_passing}
use Rattle.rt_marks.proofs.Names.{clash}
use Rattle.rt_marks.proofs.Order.{before_asym}
use Rattle.rt_tagcmd.specs.MarkLists.{marks_from}

-- ONE ORDER OF MANY

-- one mark for another
exchanged : (marks : List Mark) (k : ℕ) (u v d : Mark) → k < length marks → u ≡ slice_index_or marks k d
    → with_mark u (in_order (slice_set marks k v)) ≡ with_mark v (in_order marks)
exchanged [] k u v d l e = absurd (omega arith)
exchanged (m ∷ marks) zero u v d l e = with_comm u v (in_order marks) ∙ (λ i. with_mark v (with_mark (e i) (in_order marks)))
exchanged (m ∷ marks) (suc k) u v d l e =
    with_comm u m (in_order (slice_set marks k v))
    ∙ ap (with_mark m) (exchanged marks k u v d (omega arith) e)
    ∙ with_comm m v (in_order marks)

swapped : (marks : List Mark) (i j : ℕ) (d : Mark) → i < length marks → j < length marks
    → in_order (slice_set (slice_set marks i (slice_index_or marks j d)) j (slice_index_or marks i d)) ≡ in_order marks
swapped [] i j d p q = absurd (omega arith)
swapped (m ∷ marks) zero zero d p q = refl
swapped (m ∷ marks) zero (suc j) d p q = exchanged marks j (slice_index_or marks j d) m d (omega arith) refl
swapped (m ∷ marks) (suc i) zero d p q = exchanged marks i (slice_index_or marks i d) m d (omega arith) refl
swapped (m ∷ marks) (suc i) (suc j) d p q = ap (with_mark m) (swapped marks i j d (omega arith) (omega arith))

one_swap : (marks : List Mark) (i j : ℕ) → i < length marks → j < length marks → in_order (swap marks i j) ≡ in_order marks
one_swap [] i j p q = refl
one_swap (m ∷ marks) i j p q = swapped (m ∷ marks) i j m p q

same_order : (old new : List Mark) → IsPermutation old new → in_order new ≡ in_order old
same_order old new h = IsPermutation-keeps old (λ l. in_order l ≡ in_order old) refl (λ l i j p q e. one_swap l i j p q ∙ e) new h

-- what a sort leaves
rising : (spots : List MarkRef) → IsSortedBy (λ a b. comes_before (spotted a) (spotted b)) spots → in_order (map spotted spots) ≡ map spotted spots
rising [] h = refl
rising (s ∷ []) h = refl
rising (s ∷ t ∷ spots) h =
    ap (with_mark (spotted s)) (rising (t ∷ spots) (λ k d l m. let e : suc k + 1 ≡ suc (k + 1) = omega arith in sym (ap (λ n. comes_before (spotted (slice_index_or (s ∷ t ∷ spots) n d)) (spotted (slice_index_or (t ∷ spots) k d))) e) ∙ h (suc k) d (omega arith) (omega arith)))
    ∙ with_here (spotted s) (spotted t) (map spotted spots) (h 0 s (omega arith) (omega arith))

pub sorted_are : (old new : List MarkRef) → IsPermutation old new → IsSortedBy (λ a b. comes_before (spotted a) (spotted b)) new → map spotted new ≡ in_order (map spotted old)
sorted_are old new p h = sym (rising new h) ∙ same_order (map spotted old) (map spotted new) (IsPermutation-map spotted old new p)

-- THOSE OF A STRETCH

-- none of some marks comes before another
abbrev NoneBefore : Mark → List Mark → Type 0
NoneBefore m marks = AllByRecursion (λ x. comes_before x m ≡ false) marks

-- marks in order, of which some may be the same
abbrev Rise : List Mark → Type 0
Rise [] = Unit {0}
Rise (m ∷ marks) = NoneBefore m marks × Rise marks

not_earlier : (m x : Mark) (marks : List Mark) → comes_before x m ≡ false → NoneBefore x marks → NoneBefore m marks
not_earlier m x [] f h = tt
not_earlier m x (y ∷ marks) f h =
    (split (comes_before y m) (λ t. absurd (clash (comes_before x m) (between y x m h.0 t) f)) (λ g. g), not_earlier m x marks f h.1)

rise_with : (m : Mark) (marks : List Mark) → Rise marks → Rise (with_mark m marks)
rise_with m [] h = (tt, tt)
rise_with m (x ∷ marks) h =
    split (comes_before x m)
    (λ t. subst Rise (sym (with_passing m x marks t)) (each_with (λ y. comes_before y x ≡ false) m marks (before_asym x m t) h.0, rise_with m marks h.1))
    (λ f. subst Rise (sym (with_here m x marks f)) ((f, not_earlier m x marks f h.0), h))

pub rise_in_order : (marks : List Mark) → Rise (in_order marks)
rise_in_order [] = tt
rise_in_order (m ∷ marks) = rise_with m (in_order marks) (rise_in_order marks)

none_kept : (p : Mark → Bool) (m : Mark) (marks : List Mark) → NoneBefore m marks → NoneBefore m (filter p marks)
none_kept p m [] h = tt
none_kept p m (x ∷ marks) h = by (p x) (none_kept p m marks h.1)
  where
    by : (b : Bool) → NoneBefore m (filter p marks) → NoneBefore m (cond b (x ∷ filter p marks) (filter p marks))
    by true more = (h.0, more)
    by false more = more

in_front : (m : Mark) (marks : List Mark) → NoneBefore m marks → with_mark m marks ≡ m ∷ marks
in_front m [] h = refl
in_front m (x ∷ marks) h = with_here m x marks h.0

one_filtered : (p : Mark → Bool) (m : Mark) (marks : List Mark) → Rise marks → filter p (with_mark m marks) ≡ cond (p m) (with_mark m (filter p marks)) (filter p marks)
one_filtered p m [] h = refl
one_filtered p m (x ∷ marks) h =
    split (comes_before x m)
    (λ t. ap (filter p) (with_passing m x marks t) ∙ passing t (p x) (p m) (one_filtered p m marks h.1))
    (λ f. ap (filter p) (with_here m x marks f) ∙ (λ i. cond (p m) (sym (in_front m (filter p (x ∷ marks)) (none_kept p m (x ∷ marks) (f, not_earlier m x marks f h.0))) i) (filter p (x ∷ marks))))
  where
    passing : comes_before x m ≡ true → (b c : Bool) → filter p (with_mark m marks) ≡ cond c (with_mark m (filter p marks)) (filter p marks)
        → cond b (x ∷ filter p (with_mark m marks)) (filter p (with_mark m marks)) ≡ cond c (with_mark m (cond b (x ∷ filter p marks) (filter p marks))) (cond b (x ∷ filter p marks) (filter p marks))
    passing t true true e = ap (λ v. x ∷ v) e ∙ sym (with_passing m x (filter p marks) t)
    passing t true false e = ap (λ v. x ∷ v) e
    passing t false c e = e

-- one more mark that is looked at: it is put to those of a stretch, or isn't one
pub put_more : (from behind : ℕ) (old new : List Mark) (one : Mark) (marks : List Mark) → from ≤ one.place → one.place < behind → new ≡ old ++ one ∷ []
    → in_order old ≡ marks_from from behind (in_order marks) → in_order new ≡ marks_from from behind (in_order (one ∷ marks))
put_more from behind old new one marks l k n e =
    ap in_order n ∙ in_order_middle old one [] ∙ ap (λ v. with_mark one (in_order v)) (append-nil old) ∙ ap (with_mark one) e
    ∙ sym (one_filtered (λ x. nat_le from x.place && nat_lt x.place behind) one (in_order marks) (rise_in_order marks)
    ∙ cond-true (nat_le from one.place && nat_lt one.place behind) (with_mark one (marks_from from behind (in_order marks))) (marks_from from behind (in_order marks)) (inside from one.place behind l k))
  where
    inside : (a b c : ℕ) → a ≤ b → b < c → (nat_le a b && nat_lt b c) ≡ true
    inside a b c l k = grind (arith, nat_tests)

pub put_none : (from behind : ℕ) (old : List Mark) (one : Mark) (marks : List Mark) → (nat_le from one.place && nat_lt one.place behind) ≡ false
    → in_order old ≡ marks_from from behind (in_order marks) → in_order old ≡ marks_from from behind (in_order (one ∷ marks))
put_none from behind old one marks f e =
    e
    ∙ sym (one_filtered (λ x. nat_le from x.place && nat_lt x.place behind) one (in_order marks) (rise_in_order marks)
    ∙ cond-false (nat_le from one.place && nat_lt one.place behind) (with_mark one (marks_from from behind (in_order marks))) (marks_from from behind (in_order marks)) f)

pub before_it : (a b c : ℕ) → b < a → (nat_le a b && nat_lt b c) ≡ false
before_it a b c l = grind (arith, nat_tests)

pub behind_it : (a b c : ℕ) → c ≤ b → (nat_le a b && nat_lt b c) ≡ false
behind_it a b c l = by (nat_le a b) (nat_lt b c) (le-ltb b c l)
  where
    by : (s t : Bool) → t ≡ false → (s && t) ≡ false
    by true t e = e
    by false t e = refl
