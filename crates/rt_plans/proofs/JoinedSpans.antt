-- Sorted spans, those that overlap or follow one another as one.
use Rattle.std.proofs.Common.{◌≡◌, ℕ, suc, ◌+◌, ◌==◌, ◌<◌, ◌≤◌, List, [], ◌∷◌, ◌++◌, Bool, true, false, cond, ◌&&◌, ◌||◌, length, drop, get_or, max, refl, sym, ◌∙◌, ap, arith, add-one, append_assoc, Less, Equal, Greater}
use Rattle.std.specs.Prelude.{nat_lt, if◌then◌else◌}
use Rattle.std.specs.Ordering.{nat_cmp, is_lt, ordering_then}
use Rattle.std.specs.List.{list_all}
use Rattle.std.proofs.lemmas.Bool.{and_from, and_parts, both_ways, cond-false, cond-true}
use Rattle.std.proofs.lemmas.Bool.Decides.{nat_tests}
use Rattle.std.proofs.lemmas.List.{drop_all}
use Rattle.rt_stamps.specs.declared.stamp.Span.{Span}
use Rattle.rt_stamps.specs.declared.stamp.Stamp.{Stamp}
use Rattle.rt_store.specs.Cells.{is_in_span}
use Rattle.rt_store.specs.Spans.{each_next, first_in_span, is_clear_of, is_in_spans, is_span}
use Rattle.rt_store.proofs.Distinct.{split}
use Rattle.rt_plans.specs.NamedSpans.{begins_by}
use Rattle.rt_plans.proofs.SpanLaws.{Begins, each_next_from}

-- sorted spans after one that is still open: those that aren't clear of it become one with it
abbrev pub joined_from : Span → List Span → List Span
joined_from span [] = span ∷ []
joined_from span (next ∷ spans) = if is_clear_of span next then span ∷ joined_from next spans else joined_from (record span { last = max span.last next.last }) spans

longer_sorted : (span next : Span) (last : ℕ) (spans : List Span) → begins_by span next ≡ true → each_next begins_by (next ∷ spans) ≡ true → each_next begins_by (record span { last = last } ∷ spans) ≡ true
longer_sorted span next last [] h k = refl
longer_sorted span next last (more ∷ spans) h k =
    let p = and_parts (begins_by next more) (each_next begins_by (more ∷ spans)) k in
    let q = p.0 in
    let both : begins_by span more ≡ true = grind (arith, nat_tests, h, q) in
    and_from _ _ both p.1

longer_forward : (span : Span) (n : ℕ) → is_span span ≡ true → is_span (record span { last = max span.last n }) ≡ true
longer_forward span n h = grind (arith, nat_tests, h)

longer_has : (span next : Span) (s : Stamp) (rest : Bool) → begins_by span next ≡ true → is_clear_of span next ≡ false → is_span span ≡ true → is_span next ≡ true
    → (is_in_span (record span { last = max span.last next.last }) s || rest) ≡ (is_in_span span s || (is_in_span next s || rest))
longer_has span next s true h k f g = grind (arith, nat_tests, h, k, f, g)
longer_has span next s false h k f g = grind (arith, nat_tests, h, k, f, g)

-- what is joined holds what the open one and the others hold
pub joined_hold : (span : Span) (spans : List Span) (s : Stamp) → each_next begins_by (span ∷ spans) ≡ true → is_span span ≡ true → list_all is_span spans ≡ true
    → is_in_spans (joined_from span spans) s ≡ (is_in_span span s || is_in_spans spans s)
joined_hold span [] s h f g = refl
joined_hold span (next ∷ spans) s h f g =
    let p = and_parts (begins_by span next) (each_next begins_by (next ∷ spans)) h in
    let q = and_parts (is_span next) (list_all is_span spans) g in
    let last = max span.last next.last in
    elim (is_clear_of span next) as
    (λ b. is_clear_of span next ≡ b → is_in_spans (cond b (span ∷ joined_from next spans) (joined_from (record span { last = last }) spans)) s
    ≡ (is_in_span span s || (is_in_span next s || is_in_spans spans s))) [
      | true ↦ λ e. ap (λ b. is_in_span span s || b) (joined_hold next spans s p.1 q.0 q.1)
      | false ↦ λ e. joined_hold (record span { last = last }) spans s (longer_sorted span next last spans p.0 p.1) (longer_forward span next.last f) q.1
          ∙ longer_has span next s (is_in_spans spans s) p.0 e f q.0
    ]
    refl

pub joined_forward : (span : Span) (spans : List Span) → is_span span ≡ true → list_all is_span spans ≡ true → list_all is_span (joined_from span spans) ≡ true
joined_forward span [] f g = and_from (is_span span) _ f refl
joined_forward span (next ∷ spans) f g =
    let q = and_parts (is_span next) (list_all is_span spans) g in
    let last = max span.last next.last in
    elim (is_clear_of span next) as (λ b. list_all is_span (cond b (span ∷ joined_from next spans) (joined_from (record span { last = last }) spans)) ≡ true) [
      | true ↦ and_from (is_span span) _ f (joined_forward next spans q.0 q.1)
      | false ↦ joined_forward (record span { last = last }) spans (longer_forward span next.last f) q.1
    ]

begins_first : (span : Span) (spans : List Span) → Begins (first_in_span span) (joined_from span spans)
begins_first span [] = (span, [], refl, refl, refl)
begins_first span (next ∷ spans) =
    let last = max span.last next.last in
    elim (is_clear_of span next) as (λ b. Begins (first_in_span span) (cond b (span ∷ joined_from next spans) (joined_from (record span { last = last }) spans))) [
      | true ↦ (span, joined_from next spans, refl, refl, refl)
      | false ↦ begins_first (record span { last = last }) spans
    ]

clear_more : (span next : Span) (spans : List Span) → Begins (first_in_span next) spans → is_clear_of span next ≡ true → each_next is_clear_of spans ≡ true → each_next is_clear_of (span ∷ spans) ≡ true
clear_more span next spans b h k =
    let rest : each_next is_clear_of (b.0 ∷ b.1) ≡ true = ap (each_next is_clear_of) (sym b.2) ∙ k in
    let clear : is_clear_of span b.0 ≡ true = (λ i. nat_lt span.site (b.3 i) || ((span.site == b.3 i) && nat_lt (span.last + 1) (b.4 i))) ∙ h in
    ap (λ l. each_next is_clear_of (span ∷ l)) b.2 ∙ and_from (is_clear_of span b.0) _ clear rest

-- and each of them is clear of the next one
pub joined_clear : (span : Span) (spans : List Span) → each_next is_clear_of (joined_from span spans) ≡ true
joined_clear span [] = refl
joined_clear span (next ∷ spans) =
    let last = max span.last next.last in
    elim (is_clear_of span next) as
    (λ b. is_clear_of span next ≡ b → each_next is_clear_of (cond b (span ∷ joined_from next spans) (joined_from (record span { last = last }) spans)) ≡ true) [
      | true ↦ λ e. clear_more span next (joined_from next spans) (begins_first next spans) e (joined_clear next spans)
      | false ↦ λ e. joined_clear (record span { last = last }) spans
    ]
    refl

-- THE LOOP

-- what is left to join, sorted behind the open one
pub record Joins (all done : List Span) (span : Span) (left : List Span) : Type 0 where
  pub items : done ++ joined_from span left ≡ all
  pub sorted : each_next begins_by (span ∷ left) ≡ true

pub first_begins : (span next : Span) (left : List Span) → each_next begins_by (span ∷ next ∷ left) ≡ true → begins_by span next ≡ true
first_begins span next left h = (and_parts (begins_by span next) (each_next begins_by (next ∷ left)) h).0

pub one_longer : (all done : List Span) (span next : Span) (left : List Span) → Joins all done span (next ∷ left) → is_clear_of span next ≡ false → Joins all done (record span { last = max span.last next.last }) left
one_longer all done span next left j e =
    let p = and_parts (begins_by span next) (each_next begins_by (next ∷ left)) j.sorted in
    record {
      items = ap (λ l. done ++ l) (sym (cond-false (is_clear_of span next) (span ∷ joined_from next left) (joined_from (record span { last = max span.last next.last }) left) e)) ∙ j.items;
      sorted = longer_sorted span next (max span.last next.last) left p.0 p.1;
    }

pub one_done : (all done : List Span) (span next : Span) (left : List Span) → Joins all done span (next ∷ left) → is_clear_of span next ≡ true → Joins all (done ++ span ∷ []) next left
one_done all done span next left j e =
    let p = and_parts (begins_by span next) (each_next begins_by (next ∷ left)) j.sorted in
    record {
      items = append_assoc done (span ∷ []) (joined_from next left)
          ∙ ap (λ l. done ++ l) (sym (cond-true (is_clear_of span next) (span ∷ joined_from next left) (joined_from (record span { last = max span.last next.last }) left) e)) ∙ j.items;
      sorted = p.1;
    }

-- when all are joined
pub all_joined : (all done : List Span) (span : Span) (others : List Span) (i : ℕ) → length others ≤ i → Joins all done span (drop i others) → done ++ span ∷ [] ≡ all
all_joined all done span others i h j = ap (λ left. done ++ joined_from span left) (sym (drop_all i others h)) ∙ j.items

-- SORTING

in_order : (a b : Span) → is_lt (ordering_then (nat_cmp b.site a.site) (nat_cmp b.first a.first)) ≡ false → begins_by a b ≡ true
in_order a b h = split (nat_lt b.site a.site)
    (λ e. absurd (both_ways true (sym (ap (λ t. is_lt (ordering_then (cond t Less (cond (b.site == a.site) Equal Greater)) (nat_cmp b.first a.first))) e) ∙ h) refl))
    (λ e. split (b.site == a.site)
    (λ f. let g : is_lt (nat_cmp b.first a.first) ≡ false = ap (λ t. is_lt (ordering_then t (nat_cmp b.first a.first))) (sym (cond-false _ _ _ e ∙ cond-true _ _ _ f)) ∙ h in
    split (nat_lt b.first a.first)
    (λ i. absurd (both_ways true (sym (ap (λ t. is_lt (cond t Less (cond (b.first == a.first) Equal Greater))) i) ∙ g) refl))
    (λ i. grind (arith, nat_tests)))
    (λ f. grind (arith, nat_tests)))

pub sorted_spans : (xs : List Span)
    → ((k : ℕ) (d : Span) → 0 ≤ k → k + 1 < length xs → is_lt (ordering_then (nat_cmp (get_or xs (k + 1) d).site (get_or xs k d).site) (nat_cmp (get_or xs (k + 1) d).first (get_or xs k d).first)) ≡ false)
    → each_next begins_by xs ≡ true
sorted_spans xs h = each_next_from begins_by xs (λ k x l.
    let e : k + 1 ≡ suc k = add-one k in
    in_order (get_or xs k x) (get_or xs (suc k) x)
    (ap (λ n. is_lt (ordering_then (nat_cmp (get_or xs n x).site (get_or xs k x).site) (nat_cmp (get_or xs n x).first (get_or xs k x).first))) (sym e) ∙ h k x (omega arith) (omega arith)))
