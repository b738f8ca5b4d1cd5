-- Spans that are clear of one another are one list where they hold the same stamps.
use Rattle.std.proofs.Common.{◌≡◌, ◌+◌, ◌==◌, List, [], ◌∷◌, Bool, true, false, ◌&&◌, ◌||◌, refl, sym, ◌∙◌, ap, arith, All}
use Rattle.std.specs.Prelude.{nat_le, nat_lt}
use Rattle.std.specs.List.{list_all, IsDistinct}
use Rattle.std.specs.List.Sorted.{IsPermutation}
use Rattle.std.proofs.lemmas.List.Elements.{All-cons, All-head, All-nil, All-tail}
use Rattle.std.proofs.lemmas.List.Sorted.{All-permutation}
use Rattle.std.proofs.lemmas.Bool.{and_from, and_parts, or_from, or_left}
use Rattle.std.proofs.lemmas.Bool.Decides.{nat_tests}
use Rattle.rt_stamps.specs.declared.stamp.Span.{Span}
use Rattle.rt_stamps.specs.declared.stamp.Stamp.{Stamp}
use Rattle.rt_stamps.specs.Stamps.{is_same}
use Rattle.rt_store.specs.Cells.{is_in_span}
use Rattle.rt_store.specs.Spans.{each_next, first_in_span, is_among, is_clear_of, is_in_spans, is_span, last_stamp, next_stamp}
use Rattle.rt_store.proofs.Distinct.{split}
use Rattle.rt_plans.specs.NamedSpans.{by_site, spans_in}
use Rattle.rt_plans.proofs.NamedSpanLaws.{by_site_sorted, spans_forward, spans_hold, tail_next}
use Rattle.rt_plans.proofs.SpanLaws.{clear_runs}

-- a stamp is of a lesser site than a span, or of its site and at most the next one behind it
abbrev reached : Span → Stamp → Bool
reached x s = nat_lt s.site x.site || ((s.site == x.site) && nat_le s.count (x.last + 1))

further : (a b c : Span) → is_span b ≡ true → is_clear_of a b ≡ true → is_clear_of b c ≡ true → is_clear_of a c ≡ true
further a b c f h k = grind (arith, nat_tests)

all_further : (x y : Span) (ys : List Span) → is_span y ≡ true → is_clear_of x y ≡ true → list_all (is_clear_of y) ys ≡ true → list_all (is_clear_of x) ys ≡ true
all_further x y [] f h k = refl
all_further x y (z ∷ zs) f h k =
    let p = and_parts (is_clear_of y z) (list_all (is_clear_of y) zs) k in
    and_from (is_clear_of x z) _ (further x y z f h p.0) (all_further x y zs f h p.1)

-- each span is clear of all behind it
all_clear : (x : Span) (xs : List Span) → list_all is_span xs ≡ true → each_next is_clear_of (x ∷ xs) ≡ true → list_all (is_clear_of x) xs ≡ true
all_clear x [] f h = refl
all_clear x (y ∷ ys) f h =
    let p = and_parts (is_clear_of x y) (each_next is_clear_of (y ∷ ys)) h in
    let q = and_parts (is_span y) (list_all is_span ys) f in
    and_from (is_clear_of x y) _ p.0 (all_further x y ys q.0 p.0 (all_clear y ys q.1 p.1))

not_there : (x y : Span) (s : Stamp) → is_clear_of x y ≡ true → reached x s ≡ true → is_in_span y s ≡ false
not_there x y s h r = grind (arith, nat_tests)

none_behind : (x : Span) (s : Stamp) (xs : List Span) → list_all (is_clear_of x) xs ≡ true → reached x s ≡ true → is_in_spans xs s ≡ false
none_behind x s [] h r = refl
none_behind x s (y ∷ ys) h r =
    let p = and_parts (is_clear_of x y) (list_all (is_clear_of x) ys) h in
    or_from (is_in_span y s) _ (not_there x y s p.0 r) (none_behind x s ys p.1 r)

has_first : (x : Span) → is_span x ≡ true → is_in_span x (first_in_span x) ≡ true
has_first x f = grind (arith, nat_tests)

only_first : (b c : Bool) → c ≡ false → (b || c) ≡ true → b ≡ true
only_first true c h k = refl
only_first false c h k = sym h ∙ k

-- two lists of spans that hold the same stamps, each span clear of those behind it
record Alike (y z : Span) (ys zs : List Span) : Type 0 where
  forward_y : is_span y ≡ true
  forward_z : is_span z ≡ true
  clear_y : list_all (is_clear_of y) ys ≡ true
  clear_z : list_all (is_clear_of z) zs ≡ true
  same : (s : Stamp) → is_in_spans (y ∷ ys) s ≡ is_in_spans (z ∷ zs) s

swapped : (y z : Span) (ys zs : List Span) → Alike y z ys zs → Alike z y zs ys
swapped y z ys zs h = record { forward_y = h.forward_z; forward_z = h.forward_y; clear_y = h.clear_z; clear_z = h.clear_y; same = λ s. sym (h.same s) }

comes_later : (y z : Span) → is_span y ≡ true → is_span z ≡ true → reached z (first_in_span y) ≡ false → reached y (first_in_span z) ≡ true
comes_later y z f g r = grind (arith, nat_tests)

not_before : (y z : Span) → is_span z ≡ true → reached z (first_in_span y) ≡ false → is_in_span y (first_in_span z) ≡ false
not_before y z g r = grind (arith, nat_tests)

-- the first span of one list begins in that of the other
begins_in : (y z : Span) (ys zs : List Span) → Alike y z ys zs → is_in_span z (first_in_span y) ≡ true
begins_in y z ys zs h = split (reached z (first_in_span y))
    (λ r. only_first (is_in_span z (first_in_span y)) _ (none_behind z (first_in_span y) zs h.clear_z r) (sym (h.same (first_in_span y)) ∙ or_left (is_in_span y (first_in_span y)) _ (has_first y h.forward_y)))
    (λ r.
    let none : is_in_spans (y ∷ ys) (first_in_span z) ≡ false =
    or_from (is_in_span y (first_in_span z)) _ (not_before y z h.forward_z r) (none_behind y (first_in_span z) ys h.clear_y (comes_later y z h.forward_y h.forward_z r)) in
    let some : is_in_spans (z ∷ zs) (first_in_span z) ≡ true = or_left (is_in_span z (first_in_span z)) _ (has_first z h.forward_z) in
    let bad : false ≡ true = sym none ∙ h.same (first_in_span z) ∙ some in
    absurd (cc bad))

behind_it : (y : Span) → is_in_span y (next_stamp (last_stamp y)) ≡ false
behind_it y = grind (arith, nat_tests)

just_reached : (y : Span) → reached y (next_stamp (last_stamp y)) ≡ true
just_reached y = grind (arith, nat_tests)

or_first : (b c : Bool) → (b || c) ≡ false → b ≡ false
or_first true c h = h
or_first false c h = refl

ends_there : (y z : Span) → is_span y ≡ true → is_in_span z (first_in_span y) ≡ true → is_in_span z (next_stamp (last_stamp y)) ≡ false → nat_le z.last y.last ≡ true
ends_there y z f h k = grind (arith, nat_tests)

-- and that ends no later
ends_by : (y z : Span) (ys zs : List Span) → Alike y z ys zs → nat_le z.last y.last ≡ true
ends_by y z ys zs h =
    let s = next_stamp (last_stamp y) in
    let none : is_in_spans (y ∷ ys) s ≡ false = or_from (is_in_span y s) _ (behind_it y) (none_behind y s ys h.clear_y (just_reached y)) in
    ends_there y z h.forward_y (begins_in y z ys zs h) (or_first (is_in_span z s) (is_in_spans zs s) (sym (h.same s) ∙ none))

same_span : (y z : Span) → is_in_span z (first_in_span y) ≡ true → is_in_span y (first_in_span z) ≡ true → nat_le z.last y.last ≡ true → nat_le y.last z.last ≡ true → y ≡ z
same_span y z a b c d =
    let site : y.site ≡ z.site = grind (arith, nat_tests, a) in
    let first : y.first ≡ z.first = grind (arith, nat_tests, a, b) in
    let last : y.last ≡ z.last = grind (arith, nat_tests, c, d) in
    λ i. record { site = site i; first = first i; last = last i }

in_reach : (y : Span) (s : Stamp) → is_in_span y s ≡ true → reached y s ≡ true
in_reach y s h = grind (arith, nat_tests)

pub one_list : (ys zs : List Span) → list_all is_span ys ≡ true → each_next is_clear_of ys ≡ true → list_all is_span zs ≡ true → each_next is_clear_of zs ≡ true
    → ((s : Stamp) → is_in_spans ys s ≡ is_in_spans zs s) → ys ≡ zs
one_list [] [] f h g k e = refl
one_list [] (z ∷ zs) f h g k e =
    let some : is_in_spans (z ∷ zs) (first_in_span z) ≡ true = or_left (is_in_span z (first_in_span z)) _ (has_first z (and_parts (is_span z) (list_all is_span zs) g).0) in
    let bad : false ≡ true = e (first_in_span z) ∙ some in
    absurd (cc bad)
one_list (y ∷ ys) [] f h g k e =
    let some : is_in_spans (y ∷ ys) (first_in_span y) ≡ true = or_left (is_in_span y (first_in_span y)) _ (has_first y (and_parts (is_span y) (list_all is_span ys) f).0) in
    let bad : false ≡ true = sym (e (first_in_span y)) ∙ some in
    absurd (cc bad)
one_list (y ∷ ys) (z ∷ zs) f h g k e =
    let p = and_parts (is_span y) (list_all is_span ys) f in
    let q = and_parts (is_span z) (list_all is_span zs) g in
    let a : Alike y z ys zs = record { forward_y = p.0; forward_z = q.0; clear_y = all_clear y ys p.1 h; clear_z = all_clear z zs q.1 k; same = e } in
    let b = swapped y z ys zs a in
    let one = same_span y z (begins_in y z ys zs a) (begins_in z y zs ys b) (ends_by y z ys zs a) (ends_by z y zs ys b) in
    let rest : (s : Stamp) → is_in_spans ys s ≡ is_in_spans zs s = λ s. split (is_in_span y s)
    (λ t. none_behind y s ys a.clear_y (in_reach y s t) ∙ sym (none_behind z s zs a.clear_z (in_reach z s (ap (λ (x : Span). is_in_span x s) (sym one) ∙ t))))
    (λ t. ap (λ b. b || is_in_spans ys s) (sym t) ∙ e s ∙ ap (λ b. b || is_in_spans zs s) (ap (λ (x : Span). is_in_span x s) (sym one) ∙ t)) in
    λ i. one i ∷ one_list ys zs p.1 (tail_next is_clear_of y ys h) q.1 (tail_next is_clear_of z zs k) rest i

-- spans that hold just some distinct stamps are theirs
pub spans_from : (spans : List Span) (stamps : List Stamp) → IsDistinct is_same stamps → list_all is_span spans ≡ true → each_next is_clear_of spans ≡ true
    → ((s : Stamp) → is_in_spans spans s ≡ is_among stamps s) → spans ≡ spans_in stamps
spans_from spans stamps d f h e =
    one_list spans (spans_in stamps) f h (spans_forward stamps) (clear_runs (by_site stamps) (by_site_sorted stamps d)) (λ s. e s ∙ sym (spans_hold stamps s))

-- what all pass is passed by all in another order
pub all_moved : {X : Type 0} (p : X → Bool) (xs ys : List X) → IsPermutation xs ys → list_all p xs ≡ true → list_all p ys ≡ true
all_moved {X} p xs ys m h = back ys (All-permutation P xs ys m (each xs h))
  where
    P : X → Type 0
    P = λ x. p x ≡ true

    each : (xs : List X) → list_all p xs ≡ true → All P xs
    each [] h = All-nil P
    each (x ∷ xs) h = let q = and_parts (p x) (list_all p xs) h in All-cons P x xs q.0 (each xs q.1)

    back : (xs : List X) → All P xs → list_all p xs ≡ true
    back [] h = refl
    back (x ∷ xs) h = and_from (p x) _ (All-head P x xs h) (back xs (All-tail P x xs h))
