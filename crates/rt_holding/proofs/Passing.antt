-- What is due, and the keys that are passed.
use Rattle.std.proofs.Common.{◌≡◌, ℕ, ◌+◌, ◌<◌, ◌≤◌, Bool, true, false, inl, inr, refl, sym, ap, subst, ◌∙◌, arith, List, [], ◌∷◌, Option, Some, None, not, ◌&&◌, ◌||◌, ◌==◌, drop, get_or, length, slice_get, slice_index_or}
use Rattle.std.proofs.lemmas.Bool.{cases_lt}
use Rattle.std.proofs.lemmas.Bool.Decides.{nat_tests}
use Rattle.std.proofs.lemmas.Grind.{common_steps}
use Rattle.std.proofs.lemmas.List.{drop_more}
use Rattle.std.proofs.lemmas.List.Sorted.{list_any-IsPermutation}
use Rattle.std.specs.BTreeMap.{is_at}
use Rattle.std.specs.BinaryHeap.{IsHeap, IsUpperBound, PopsGreatest}
use Rattle.std.specs.List.{list_all, list_any}
use Rattle.std.specs.List.Sorted.{IsPermutation}
use Rattle.std.specs.Option.{IfNone, IfSome}
use Rattle.std.specs.Prelude.{Err, IsOk, Ok, OnOk, OnSome, Result}
use Rattle.std.specs.Ordering.{is_gt, is_lt, nat_cmp, ordering_then}
use Rattle.std.specs.declared.cmp.Reverse.{Reverse}
use Rattle.std.specs.declared.cmp.Ordering.{Ordering}
use Rattle.rt_stamps.specs.declared.stamp.Span.{Span}
use Rattle.rt_rga.proofs.Skipping.{split}
use Rattle.rt_holding.specs.declared.waits.Key.{Key}
use Rattle.rt_holding.specs.declared.waits.Keys.{Keys}
use Rattle.rt_holding.specs.Kept.{Standing, by_stamp_and_arrival}
use Rattle.rt_holding.specs.Waits.{HasLess, HasMore, KeepsOtherPlaces, by_key, by_later, least_key}
use Rattle.rt_holding.proofs.Standing.{own_place, this_place}

-- LISTS OF SPANS

pub spans_from : (spans : List Span) (i : ℕ) (span : Span) → i < length spans → span ≡ get_or spans i span → drop i spans ≡ span ∷ drop (i + 1) spans
spans_from spans i span h e = drop_more spans i span h ∙ ap (λ t. t ∷ drop (i + 1) spans) (sym e)

-- what is so of all spans from one on
pub all_on : (p : Span → Bool) (spans : List Span) (i : ℕ) (d : Span) → i < length spans → p (get_or spans i d) ≡ true → list_all p (drop (i + 1) spans) ≡ true → list_all p (drop i spans) ≡ true
all_on p spans i d h t r = ap (list_all p) (drop_more spans i d h) ∙ (rw t r)

pub none_on : (p : Span → Bool) (spans : List Span) (i : ℕ) (d : Span) → i < length spans → p (get_or spans i d) ≡ false → list_any p (drop (i + 1) spans) ≡ false → list_any p (drop i spans) ≡ false
none_on p spans i d h t r = ap (list_any p) (drop_more spans i d h) ∙ (rw t r)

-- KEYS OF OTHER PLACES

pub others_on : (p : Standing) (a b c : Keys) → KeepsOtherPlaces p a b → KeepsOtherPlaces p b c → KeepsOtherPlaces p a c
others_on p a b c f g = record {
  alone = λ k n. g.alone k n ∙ f.alone k n;
  begun = λ k n. g.begun k n ∙ f.begun k n;
  ends = λ site count n. g.ends site count (f.ends site count n);
}

pub less_on : (a b c : Keys) → HasLess a b → HasLess b c → HasLess a c
less_on a b c f g = record { alone = λ k h. f.alone k (g.alone k h); begun = λ k h. f.begun k (g.begun k h); ends = g.ends ∙ f.ends }

pub more_on : (a b c : Keys) → HasMore a b → HasMore b c → HasMore a c
more_on a b c f g = record {
  alone = λ k n. g.alone k (f.alone k n);
  begun = λ k n. g.begun k (f.begun k n);
  ends = λ site count n. g.ends site count (f.ends site count n);
}

-- WHAT IS DUE

-- whether a place is among others
abbrev pub among : List (Reverse Standing) → Standing → Bool
among items p = list_any (λ (r : Reverse Standing). is_at (by_stamp_and_arrival p) r.0) items

pub moved : (xs ys : List (Reverse Standing)) → IsPermutation xs ys → (p : Standing) → among ys p ≡ among xs p
moved xs ys s p = sym (list_any-IsPermutation (λ (r : Reverse Standing). is_at (by_stamp_and_arrival p) r.0) xs ys s)

-- none goes before one that is no less than any
pub none_before : (x : Reverse Standing) (xs : List (Reverse Standing)) → IsUpperBound by_later x xs → (p : Standing) → among xs p ≡ true → is_lt (by_stamp_and_arrival p x.0) ≡ false
none_before x [] u p e = absurd (cc e)
none_before x (y ∷ xs) u p e = split (is_at (by_stamp_and_arrival p) y.0)
    (λ t. subst (λ (q : Standing). is_lt (by_stamp_and_arrival q x.0) ≡ false) (sym (this_place p y.0 t)) u.0)
    (λ t. none_before x xs u.1 p (rw t at e))

-- KEYS OF A SITE

pub from_least : (site count : ℕ) (place : Standing) → is_gt (by_key (least_key site) (record { site = site; count = count; place = place })) ≡ false
from_least site count place = by place.0.count place.0.site place.1
  where
    by : (a b c : ℕ) → is_gt (ordering_then (nat_cmp site site) (ordering_then (nat_cmp 0 count) (ordering_then (ordering_then (nat_cmp 0 a) (nat_cmp 0 b)) (nat_cmp 0 c)))) ≡ false
    by a b c = grind (arith, common_steps)

pub of_least : (site : ℕ) (q : Key) → q.site ≡ site → is_gt (by_key (least_key site) q) ≡ false
of_least site q e = subst (λ s. is_gt (by_key (least_key s) q) ≡ false) e (from_least q.site q.count q.place)

of_site : (own site : ℕ) (o : Ordering) → is_gt (ordering_then (nat_cmp site own) o) ≡ false → site ≤ own
of_site own site o a = grind (arith, common_steps, a)

past_site : (own site : ℕ) (o : Ordering) → site < own → is_gt (ordering_then (nat_cmp own site) o) ≡ false → ⊥
past_site own site o l b = grind (arith, common_steps, b, l)

past_count : (site at count : ℕ) (o : Ordering) → count < at → is_gt (ordering_then (nat_cmp site site) (ordering_then (nat_cmp at count) o)) ≡ false → ⊥
past_count site at count o l b = grind (arith, common_steps, b, l)

-- a key that isn't of the site, or past a count, is none that stands before those up to the count
pub not_before : (k q : Key) (site known : ℕ) → is_gt (by_key (least_key site) k) ≡ false → (k.site ≡ site → k.count ≤ known → ⊥) → q.site ≡ site → q.count ≤ known
    → is_gt (by_key k q) ≡ false → ⊥
not_before k q site known a n e l b =
    let s = of_site k.site site _ a in
    elim (cases_lt site k.site) [
      | inl m ↦ past_site k.site q.site _ (omega (arith, m, e)) b
      | inr m ↦ (let i : k.site ≡ site = omega (arith, m, s) in
          elim (cases_lt known k.count) [
            | inl j ↦ (let f : is_gt (ordering_then (nat_cmp k.site k.site) (ordering_then (nat_cmp k.count q.count) (by_stamp_and_arrival k.place q.place))) ≡ false
                = subst (λ z. is_gt (ordering_then (nat_cmp k.site z) (ordering_then (nat_cmp k.count q.count) (by_stamp_and_arrival k.place q.place))) ≡ false) (e ∙ sym i) b in
                past_count k.site k.count q.count _ (omega (arith, j, l)) f)
            | inr j ↦ n i j
          ])
    ]

-- none of a site stands before the first
pub no_later : (k q : Key) → k.site ≡ q.site → is_gt (by_key k q) ≡ false → k.count ≤ q.count
no_later k q e b = elim (cases_lt q.count k.count) [
  | inl l ↦ absurd (past_count k.site k.count q.count _ l (subst (λ z. is_gt (ordering_then (nat_cmp k.site z) (ordering_then (nat_cmp k.count q.count) (by_stamp_and_arrival k.place q.place))) ≡ false) (sym e) b))
  | inr l ↦ l
]

pub in_front : (keys : List Key) (P Q : Key → Type 0) → ((x : Key) → Q x → P x) → IfSome (slice_get keys 0) Q → IfSome (slice_get keys 0) P
in_front [] P Q f h = h
in_front (x ∷ keys) P Q f h = f x h

-- POPS AND PUSHES

pub from_ok : {A E P : Type 0} (r : Result A E) → IsOk r → OnOk r P → P
from_ok (Ok a) i p = p
from_ok (Err e) i p = absurd (cc i)

-- what is due when the top, which is at a place, was popped
pub popped : (r : Option (Reverse Standing)) (old new : List (Reverse Standing)) (top : Reverse Standing) (place : Standing) → top ≡ slice_index_or old 0 top → top.0 ≡ place
    → IfSome r (λ x. x ≡ slice_index_or old 0 x) → IfSome r (λ x. IsPermutation old (x ∷ new)) → IfNone r (new ≡ old)
    → (p : Standing) → among old p ≡ true → (among new p || is_at (by_stamp_and_arrival p) place) ≡ true
popped r [] new top place t s e m n p h = absurd (cc h)
popped None (y ∷ old) new top place t s e m n p h = let i : among new p ≡ true = ap (λ l. among l p) n ∙ h in rw i refl
popped (Some x) (y ∷ old) new top place t s e m n p h =
    let same : x.0 ≡ place = ap (λ (r : Reverse Standing). r.0) (e ∙ sym t) ∙ s in
    let i : (is_at (by_stamp_and_arrival p) x.0 || among new p) ≡ true = moved (y ∷ old) (x ∷ new) m p ∙ h in
    either (is_at (by_stamp_and_arrival p) x.0) (among new p) (is_at (by_stamp_and_arrival p) place) (ap (is_at (by_stamp_and_arrival p)) same) i
  where
    either : (a b c : Bool) → a ≡ c → (a || b) ≡ true → (b || c) ≡ true
    either true b true e i = elim b as (λ t. (t || true) ≡ true) [ true ↦ refl | false ↦ refl ]
    either true b false e i = absurd (cc e)
    either false true c e i = refl
    either false false c e i = absurd (cc i)

-- those that are due behind one were due
pub due_behind : (x : Reverse Standing) (old mid : List (Reverse Standing)) → IsPermutation old (x ∷ mid) → (p : Standing) → among mid p ≡ true → among old p ≡ true
due_behind x old mid m p h = sym (moved old (x ∷ mid) m p) ∙ right (is_at (by_stamp_and_arrival p) x.0) (among mid p) h
  where
    right : (a b : Bool) → b ≡ true → (a || b) ≡ true
    right true b e = refl
    right false b e = e

pub due_after : (r : Option (Reverse Standing)) (old new : List (Reverse Standing)) → IfSome r (λ x. IsPermutation old (x ∷ new)) → IfNone r (new ≡ old)
    → (p : Standing) → among new p ≡ true → among old p ≡ true
due_after None old new m n p h = ap (λ l. among l p) (sym n) ∙ h
due_after (Some x) old new m n p h = due_behind x old new m p h

-- and the one was
pub first_was : (x : Reverse Standing) (old mid : List (Reverse Standing)) → IsPermutation old (x ∷ mid) → among old x.0 ≡ true
first_was x old mid m = sym (moved old (x ∷ mid) m x.0) ∙ (rw (own_place x.0) refl)

-- a place that none goes before, and that isn't on top, isn't due
pub not_on_top : (items : List (Reverse Standing)) (top : Reverse Standing) (place : Standing) (b : Bool) → top ≡ slice_index_or items 0 top → IsUpperBound by_later top items
    → ((p : Standing) → among items p ≡ true → is_lt (by_stamp_and_arrival p place) ≡ false)
    → b ≡ not (((top.0.0.count == place.0.count) && (top.0.0.site == place.0.site)) && (top.0.1 == place.1)) → b ≡ true → among items place ≡ false
not_on_top [] top place b s u f i e = refl
not_on_top (x ∷ items) top place b s u f i e = split (among (x ∷ items) place)
    (λ t. absurd (apart top.0.0.count place.0.count top.0.0.site place.0.site top.0.1 place.1 (f top.0 there) (none_before top (x ∷ items) u place t) (sym i ∙ e)))
    (λ t. t)
  where
    there : among (x ∷ items) top.0 ≡ true
    there =
        let here : is_at (by_stamp_and_arrival top.0) x.0 ≡ true = subst (λ (r : Reverse Standing). is_at (by_stamp_and_arrival top.0) r.0 ≡ true) s (own_place top.0) in
        rw here refl

    apart : (a b c d x y : ℕ) → is_lt (ordering_then (ordering_then (nat_cmp a b) (nat_cmp c d)) (nat_cmp x y)) ≡ false
        → is_lt (ordering_then (ordering_then (nat_cmp b a) (nat_cmp d c)) (nat_cmp y x)) ≡ false → not (((a == b) && (c == d)) && (x == y)) ≡ true → ⊥
    apart a b c d x y e f g = grind (arith, nat_tests, common_steps, e, f, g)

-- the first is popped
pub first_popped : (x : Reverse Standing) (old mid new : List (Reverse Standing)) → IsPermutation old (x ∷ mid)
    → ((p : Standing) → among mid p ≡ true → (among new p || is_at (by_stamp_and_arrival p) x.0) ≡ true)
    → (p : Standing) → among old p ≡ true → (among new p || is_at (by_stamp_and_arrival p) x.0) ≡ true
first_popped x old mid new m f p h =
    let i : (is_at (by_stamp_and_arrival p) x.0 || among mid p) ≡ true = moved old (x ∷ mid) m p ∙ h in
    split (is_at (by_stamp_and_arrival p) x.0)
    (λ t. rw t (elim (among new p) as (λ b. (b || true) ≡ true) [ true ↦ refl | false ↦ refl ]))
    (λ t. f p (rw t at i))

pub same_place : (p q : Standing) (b : Bool) → b ≡ not (((p.0.count == q.0.count) && (p.0.site == q.0.site)) && (p.1 == q.1)) → b ≡ false → p ≡ q
same_place p q b i e =
    let (c, s, a) = parts p.0.count q.0.count p.0.site q.0.site p.1 q.1 (sym i ∙ e) in
    ap (λ n. (record { count = n; site = p.0.site }, p.1)) c ∙ ap (λ n. (record { count = q.0.count; site = n }, p.1)) s ∙ ap (λ n. (q.0, n)) a
  where
    parts : (a b c d x y : ℕ) → not (((a == b) && (c == d)) && (x == y)) ≡ false → (a ≡ b) × (c ≡ d) × (x ≡ y)
    parts a b c d x y e = (grind (arith, nat_tests, e), grind (arith, nat_tests, e), grind (arith, nat_tests, e))

pub heap_popped : (r : Option (Reverse Standing)) (old new : List (Reverse Standing)) → IsHeap by_later old → IfSome r (λ x. PopsGreatest by_later old x new) → IfNone r (new ≡ old) → IsHeap by_later new
heap_popped None old new h s n = subst (IsHeap by_later) (sym n) h
heap_popped (Some x) old new h s n = (s h).0

pub shorter_popped : (r : Option (Reverse Standing)) (old new : ℕ) → OnSome r (new + 1 ≡ old) → IfNone r (new ≡ old) → new ≤ old
shorter_popped None old new s n = omega (arith, n)
shorter_popped (Some x) old new s n = omega (arith, s)

pub none_popped : (P Q : Type 0) (r : Option (Reverse Standing)) → IfNone r (P × Q) → IfNone r P × IfNone r Q
none_popped P Q None k = k
none_popped P Q (Some x) k = (tt, tt)

pub either_more : (a b c : Bool) → (a || b) ≡ true → (a ≡ true → (c || b) ≡ true) → (c || b) ≡ true
either_more true b c e f = f refl
either_more false true true e f = refl
either_more false true false e f = refl
either_more false false c e f = absurd (cc e)
