-- The spans of stamps, and lists in parts.
use Rattle.std.proofs.Common.{◌≡◌, ℕ, zero, suc, ◌+◌, ◌-◌, ◌*◌, ◌<◌, ◌≤◌, List, [], ◌∷◌, ◌++◌, Bool, true, false, cond, not, ◌||◌, ◌&&◌, length, drop, filter, refl, sym, ◌∙◌, ap, arith}
use Rattle.std.specs.List.{list_all, IsDistinct}
use Rattle.std.specs.List.Sorted.{IsPermutation}
use Rattle.std.proofs.lemmas.Bool.{or_parts, and_from, and_left, and_parts, cond-true, cond-false}
use Rattle.std.proofs.lemmas.Bool.Decides.{nat_tests}
use Rattle.std.proofs.lemmas.List.Sums.{length-filter}
use Rattle.std.proofs.lemmas.List.Sorted.{IsPermutation-refl, IsPermutation-trans, IsPermutation-cons, IsPermutation-middle, list_any-IsPermutation, sum_by-IsPermutation}
use Rattle.std.proofs.Math.Nat.{suc-mul, div-mul-le_self, mod-lt}
use Rattle.std.proofs.lemmas.Nat.{div-add-mod'}
use Rattle.rt_stamps.specs.declared.stamp.Span.{Span}
use Rattle.rt_stamps.specs.declared.stamp.Stamp.{Stamp}
use Rattle.rt_stamps.specs.Stamps.{is_same}
use Rattle.rt_stamps.proofs.Order.{same_from_true}
use Rattle.rt_store.specs.Cells.{is_in_span}
use Rattle.rt_store.specs.Spans.{each_next, first_in_span, is_among, is_in_spans, is_span, next_stamp, precedes}
use Rattle.rt_store.proofs.Distinct.{split, first_apart, others_distinct}
use Rattle.rt_stamps.specs.Spans.{span_of}
use Rattle.rt_plans.specs.NamedSpans.{put_by_site, by_site, attached, consecutive_spans, spans_in, parts_for, first_parts}
use Rattle.rt_plans.specs.Removals.{span_count}
use Rattle.rt_plans.specs.TagWrites.{spans_before}
use Rattle.rt_plans.proofs.SpanLaws.{Begins, all_after, begins_attached, counted_alike, counted_runs, forward_runs, held_runs, joined_span, none_between, not_next, one_held, one_span, self_not_next}

-- STAMPS BY SITE

put_moved : (s : Stamp) (ss : List Stamp) → IsPermutation (s ∷ ss) (put_by_site s ss)
put_moved s [] = IsPermutation-refl (s ∷ [])
put_moved s (t ∷ ss) = by (precedes s t) (put_moved s ss)
  where
    by : (b : Bool) → IsPermutation (s ∷ ss) (put_by_site s ss) → IsPermutation (s ∷ t ∷ ss) (cond b (s ∷ t ∷ ss) (t ∷ put_by_site s ss))
    by true h = IsPermutation-refl (s ∷ t ∷ ss)
    by false h =
        IsPermutation-trans (s ∷ t ∷ ss) (t ∷ s ∷ ss) (t ∷ put_by_site s ss) (IsPermutation-middle (s ∷ []) t ss) (IsPermutation-cons t (s ∷ ss) (put_by_site s ss) h)

pub by_site_moved : (ss : List Stamp) → IsPermutation ss (by_site ss)
by_site_moved [] = IsPermutation-refl []
by_site_moved (s ∷ ss) = IsPermutation-trans (s ∷ ss) (s ∷ by_site ss) (put_by_site s (by_site ss)) (IsPermutation-cons s ss (by_site ss) (by_site_moved ss)) (put_moved s (by_site ss))

among_by_site : (ss : List Stamp) (s : Stamp) → is_among (by_site ss) s ≡ is_among ss s
among_by_site ss s = sym (list_any-IsPermutation (λ other. is_same other s) ss (by_site ss) (by_site_moved ss))

other_way : (s t : Stamp) → precedes s t ≡ false → is_same t s ≡ false → precedes t s ≡ true
other_way s t e f = grind (arith, nat_tests)

headed : (y s : Stamp) (ys : List Stamp) → precedes y s ≡ true → each_next precedes (y ∷ ys) ≡ true → each_next precedes (put_by_site s ys) ≡ true → each_next precedes (y ∷ put_by_site s ys) ≡ true
headed y s [] h k l = and_from (precedes y s) _ h refl
headed y s (z ∷ zs) h k l = by (precedes s z) l
  where
    by : (b : Bool) → each_next precedes (cond b (s ∷ z ∷ zs) (z ∷ put_by_site s zs)) ≡ true → each_next precedes (y ∷ cond b (s ∷ z ∷ zs) (z ∷ put_by_site s zs)) ≡ true
    by true l = and_from (precedes y s) _ h l
    by false l = and_from (precedes y z) _ (and_parts (precedes y z) (each_next precedes (z ∷ zs)) k).0 l

pub tail_next : {X : Type 0} (r : X → X → Bool) (x : X) (xs : List X) → each_next r (x ∷ xs) ≡ true → each_next r xs ≡ true
tail_next r x [] h = refl
tail_next r x (y ∷ ys) h = (and_parts (r x y) (each_next r (y ∷ ys)) h).1

put_sorted : (s : Stamp) (ss : List Stamp) → is_among ss s ≡ false → each_next precedes ss ≡ true → each_next precedes (put_by_site s ss) ≡ true
put_sorted s [] f h = refl
put_sorted s (t ∷ ss) f h =
    let p = or_parts (is_same t s) (is_among ss s) f in
    let rest = put_sorted s ss p.1 (tail_next precedes t ss h) in
    split (precedes s t)
    (λ e. ap (each_next precedes) (cond-true (precedes s t) (s ∷ t ∷ ss) (t ∷ put_by_site s ss) e) ∙ and_from (precedes s t) _ e h)
    (λ e. ap (each_next precedes) (cond-false (precedes s t) (s ∷ t ∷ ss) (t ∷ put_by_site s ss) e) ∙ headed t s ss (other_way s t e p.0) h rest)

pub by_site_sorted : (ss : List Stamp) → IsDistinct is_same ss → each_next precedes (by_site ss) ≡ true
by_site_sorted [] h = refl
by_site_sorted (s ∷ ss) h = put_sorted s (by_site ss) (among_by_site ss s ∙ first_apart s ss h) (by_site_sorted ss (others_distinct s ss h))

-- THEIR SPANS

pub spans_hold : (ss : List Stamp) (s : Stamp) → is_in_spans (spans_in ss) s ≡ is_among ss s
spans_hold ss s = held_runs (by_site ss) s ∙ among_by_site ss s

pub spans_counted : (ss : List Stamp) → IsDistinct is_same ss → length (spans_in ss) ≡ span_count ss
spans_counted ss h = counted_runs (by_site ss) (by_site_sorted ss h) ∙ sym (counted_alike ss (by_site ss) (by_site_moved ss))

pub spans_forward : (ss : List Stamp) → list_all is_span (spans_in ss) ≡ true
spans_forward ss = forward_runs (by_site ss)

-- THE SPAN OF A STAMP

-- how many spans stand before the first one that has a stamp
abbrev pub span_at : List Span → Stamp → ℕ
span_at [] s = 0
span_at (x ∷ xs) s = cond (is_in_span x s) 0 (span_at xs s + 1)

or_true : (b c : Bool) → b ≡ true → b || c ≡ true
or_true true c h = refl
or_true false c h = absurd (cc h)

first_step : (t s : Stamp) (y : Span) (ys : List Span) (b : Bool) → is_same (first_in_span y) (next_stamp t) ≡ b → is_span y ≡ true → is_same t s ≡ true
    → span_at (cond b (record y { first = t.count } ∷ ys) (span_of t ∷ y ∷ ys)) s ≡ 0
first_step t s y ys true e h k = cond-true (is_in_span (record y { first = t.count }) s) _ _ (joined_span (span_of t) y s e (one_span t) h ∙ or_true _ _ (one_held t s ∙ k))
first_step t s y ys false e h k = cond-true (is_in_span (span_of t) s) _ _ (one_held t s ∙ k)

first_at : (t s : Stamp) (ys : List Span) → list_all is_span ys ≡ true → is_same t s ≡ true → span_at (attached (span_of t) ys) s ≡ 0
first_at t s [] h k = cond-true (is_in_span (span_of t) s) _ _ (one_held t s ∙ k)
first_at t s (y ∷ ys) h k = first_step t s y ys (is_same (first_in_span y) (next_stamp t)) refl (and_parts (is_span y) (list_all is_span ys) h).0 k

other_step : (t s : Stamp) (y : Span) (ys : List Span) (b : Bool) → is_same (first_in_span y) (next_stamp t) ≡ b → is_span y ≡ true → is_same t s ≡ false
    → span_at (cond b (record y { first = t.count } ∷ ys) (span_of t ∷ y ∷ ys)) s ≡ cond b 0 1 + span_at (y ∷ ys) s
other_step t s y ys true e h k =
    let same : is_in_span (record y { first = t.count }) s ≡ is_in_span y s = joined_span (span_of t) y s e (one_span t) h ∙ ap (λ b. b || is_in_span y s) (one_held t s ∙ k) in
    let n : cond (is_in_span (record y { first = t.count }) s) 0 (span_at ys s + 1) ≡ cond (is_in_span y s) 0 (span_at ys s + 1) = ap (λ b. cond b 0 (span_at ys s + 1)) same in
    omega (arith, n)
other_step t s y ys false e h k =
    let n : cond (is_in_span (span_of t) s) 0 (span_at (y ∷ ys) s + 1) ≡ span_at (y ∷ ys) s + 1 = cond-false (is_in_span (span_of t) s) _ _ (one_held t s ∙ k) in
    omega (arith, n)

other_at : (t u s : Stamp) (zs : List Span) → Begins u zs → list_all is_span zs ≡ true → is_same t s ≡ false
    → span_at (attached (span_of t) zs) s ≡ cond (is_same u (next_stamp t)) 0 1 + span_at zs s
other_at t u s zs b h k =
    let y = b.0 in
    let ys = b.1 in
    let first : first_in_span y ≡ u = λ i. record { count = b.4 i; site = b.3 i } in
    let forward : list_all is_span (y ∷ ys) ≡ true = ap (list_all is_span) (sym b.2) ∙ h in
    ap (λ l. span_at (attached (span_of t) l) s) b.2
    ∙ other_step t s y ys (is_same (first_in_span y) (next_stamp t)) refl (and_parts (is_span y) (list_all is_span ys) forward).0 k
    ∙ ap (λ q. cond (is_same q (next_stamp t)) 0 1 + span_at (y ∷ ys) s) first
    ∙ ap (λ l. cond (is_same u (next_stamp t)) 0 1 + span_at l s) (sym b.2)

-- the last stamps before one
abbrev ends_before : List Stamp → Stamp → List Stamp → List Stamp
ends_before all s ss = filter (λ last. precedes last s && not (is_among all (next_stamp last))) ss

none_before : (all ss : List Stamp) (t s : Stamp) → is_same t s ≡ true → list_all (precedes t) ss ≡ true → ends_before all s ss ≡ []
none_before all [] t s e h = refl
none_before all (x ∷ ss) t s e h =
    let p = and_parts (precedes t x) (list_all (precedes t) ss) h in
    let q = p.0 in
    let far : precedes x s ≡ false = grind (arith, nat_tests) in
    cond-false (precedes x s && not (is_among all (next_stamp x))) _ _ (and_left _ _ far) ∙ none_before all ss t s e p.1

not_itself : (t s : Stamp) → is_same t s ≡ true → precedes t s ≡ false
not_itself t s e = grind (arith, nat_tests)

pub before_among : (t s : Stamp) (ss : List Stamp) → list_all (precedes t) ss ≡ true → is_among ss s ≡ true → precedes t s ≡ true
before_among t s [] h k = absurd (cc k)
before_among t s (x ∷ ss) h k =
    let p = and_parts (precedes t x) (list_all (precedes t) ss) h in
    split (is_same x s)
    (λ e. ap (precedes t) (sym (same_from_true x s e)) ∙ p.0)
    (λ e. before_among t s ss p.1 (ap (λ b. b || is_among ss s) (sym e) ∙ k))

ends_same : (t s : Stamp) (all ys : List Stamp) → list_all (precedes t) ys ≡ true → ends_before (t ∷ all) s ys ≡ ends_before all s ys
ends_same t s all [] h = refl
ends_same t s all (y ∷ ys) h =
    let p = and_parts (precedes t y) (list_all (precedes t) ys) h in
    let e = not_next t y p.0 in
    let rest = ends_same t s all ys p.1 in
    λ i. cond (precedes y s && not (e i || is_among all (next_stamp y))) (y ∷ rest i) (rest i)

or_false : (b c : Bool) → c ≡ false → b || c ≡ b
or_false true c h = refl
or_false false c h = h

one_more : (b d : Bool) (x : Stamp) (l : List Stamp) → b ≡ true → length (cond (b && not d) (x ∷ l) l) ≡ cond d 0 1 + length l
one_more true true x l h = omega arith
one_more true false x l h = omega arith
one_more false d x l h = absurd (cc h)

pub before_runs : (ss : List Stamp) (s : Stamp) → each_next precedes ss ≡ true → is_among ss s ≡ true → spans_before ss s ≡ span_at (consecutive_spans ss) s
before_runs [] s h k = absurd (cc k)
before_runs (t ∷ []) s h k = split (is_same t s)
    (λ e. ap length (cond-false (precedes t s && not (is_among (t ∷ []) (next_stamp t))) (t ∷ []) [] (and_left _ _ (not_itself t s e))) ∙ sym (first_at t s [] refl e))
    (λ e. absurd (let bad : false || false ≡ true = ap (λ b. b || false) (sym e) ∙ k in cc))
before_runs (t ∷ u ∷ ss) s h k =
    let all = t ∷ u ∷ ss in
    let after = all_after t (u ∷ ss) h in
    let p = and_parts (precedes t u) (each_next precedes (u ∷ ss)) h in
    split (is_same t s)
    (λ e. ap length (cond-false (precedes t s && not (is_among all (next_stamp t))) (t ∷ ends_before all s (u ∷ ss)) (ends_before all s (u ∷ ss)) (and_left _ _ (not_itself t s e))
    ∙ none_before all (u ∷ ss) t s e after) ∙ sym (first_at t s (consecutive_spans (u ∷ ss)) (forward_runs (u ∷ ss)) e))
    (λ e.
    let there : is_among (u ∷ ss) s ≡ true = ap (λ b. b || is_among (u ∷ ss) s) (sym e) ∙ k in
    let next : is_among all (next_stamp t) ≡ is_same u (next_stamp t) =
    ap (λ b. b || is_among (u ∷ ss) (next_stamp t)) (self_not_next t) ∙ or_false (is_same u (next_stamp t)) _ (none_between t u ss p.0 (all_after u ss p.1)) in
    one_more (precedes t s) (is_among all (next_stamp t)) t (ends_before all s (u ∷ ss)) (before_among t s (u ∷ ss) after there)
    ∙ (λ i. cond (next i) 0 1 + length (ends_same t s (u ∷ ss) (u ∷ ss) after i))
    ∙ ap (λ n. cond (is_same u (next_stamp t)) 0 1 + n) (before_runs (u ∷ ss) s p.1 there)
    ∙ sym (other_at t u s (consecutive_spans (u ∷ ss)) (begins_attached u (consecutive_spans ss)) (forward_runs (u ∷ ss)) e))

before_moved : (xs ys : List Stamp) (s : Stamp) → IsPermutation xs ys → spans_before xs s ≡ spans_before ys s
before_moved xs ys s h =
    (λ i. length (filter (λ x. precedes x s && not (list_any-IsPermutation (λ other. is_same other (next_stamp x)) xs ys h i)) xs))
    ∙ length-filter (λ x. precedes x s && not (is_among ys (next_stamp x))) xs
    ∙ sym (sum_by-IsPermutation (λ x. cond (precedes x s && not (is_among ys (next_stamp x))) 1 0) xs ys h)
    ∙ sym (length-filter (λ x. precedes x s && not (is_among ys (next_stamp x))) ys)

-- as many spans stand before the one that has a stamp as end before it
pub spans_ended : (ss : List Stamp) (s : Stamp) → IsDistinct is_same ss → is_among ss s ≡ true → spans_before ss s ≡ span_at (spans_in ss) s
spans_ended ss s h k = before_moved ss (by_site ss) s (by_site_moved ss) ∙ before_runs (by_site ss) s (by_site_sorted ss h) (among_by_site ss s ∙ k)

-- PARTS OF A LIST

-- so many parts have a list of so many elements, and none of them is empty
pub record IsCut (parts most n : ℕ) : Type 0 where
  pub enough : n ≤ parts * most
  pub few : parts * most < n + most

pub cut : (most n : ℕ) → 0 < most → IsCut (parts_for most n) most n
cut most n h =
    let q = div-mul-le_self (n + (most - 1)) most in
    let d = div-add-mod' (n + (most - 1)) most in
    let m = mod-lt (n + (most - 1)) h in
    record { enough = omega (arith, q, d, m); few = omega (arith, q) }

pub cut_more : (parts most n : ℕ) → IsCut (suc parts) most n → IsCut parts most (n - most)
cut_more parts most n h =
    let m = suc-mul parts most in
    let a = h.enough in
    let b = h.few in
    record { enough = omega (arith, m, a, b); few = by (omega (arith, m, b)) parts m b }
  where
    by : parts * most < n → (parts : ℕ) → suc parts * most ≡ parts * most + most → suc parts * most < n + most → parts * most < n - most + most
    by l zero m b = omega arith
    by l (suc k) m b = omega (arith, suc-mul k most, l, m, b)

pub cut_some : (parts most n : ℕ) → IsCut (suc parts) most n → 0 < n
cut_some parts most n h = let m = suc-mul parts most in let b = h.few in omega (arith, m, b)

pub length_parts : {X : Type 0} (parts most : ℕ) (xs : List X) → length (first_parts parts most xs) ≡ parts
length_parts zero most xs = refl
length_parts (suc parts) most xs = ap suc (length_parts parts most (drop most xs))

pub each_left : {X : Type 0} (r : X → X → Bool) (xs ys : List X) → each_next r (xs ++ ys) ≡ true → each_next r xs ≡ true
each_left r [] ys h = refl
each_left r (a ∷ []) ys h = refl
each_left r (a ∷ b ∷ xs) ys h = let p = and_parts (r a b) (each_next r (b ∷ xs ++ ys)) h in and_from (r a b) _ p.0 (each_left r (b ∷ xs) ys p.1)

pub each_right : {X : Type 0} (r : X → X → Bool) (xs ys : List X) → each_next r (xs ++ ys) ≡ true → each_next r ys ≡ true
each_right r [] ys h = h
each_right r (a ∷ xs) ys h = each_right r xs ys (tail_next r a (xs ++ ys) h)
