-- The places of characters in spans, span by span, and the ranges that these make.
use Rattle.std.proofs.Common.{◌≡◌, ◌∙◌, ℕ, suc, ◌+◌, ◌-◌, ◌≤◌, ◌<◌, ◌++◌, ◌||◌, Bool, true, false, List, [], ◌∷◌, Some, drop, get_or, length, refl, sym, ap, arith, append_assoc}
use Rattle.std.proofs.lemmas.Bool.Decides.{nat_tests}
use Rattle.std.proofs.lemmas.List.{drop_more}
use Rattle.std.proofs.lemmas.List.Folds.{list_any-append}
use Rattle.rt_stamps.specs.declared.stamp.Span.{Span}
use Rattle.rt_stamps.specs.declared.stamp.Stamp.{Stamp}
use Rattle.rt_ops.specs.Operations.{stamps_from, stamps_in, stamps_of_span}
use Rattle.rt_store.specs.declared.cell.Cell.{Cell}
use Rattle.rt_plans.specs.declared.range.Range.{Range}
use Rattle.rt_plans.specs.Removals.{RangesFollow, is_covered, is_in}
use Rattle.rt_revert.specs.Planning.{is_behind, range_at, ranges_of_visible, visible_place}

or_left_assoc : (a b d : Bool) → ((a || b) || d) ≡ (a || (b || d))
or_left_assoc true b d = refl
or_left_assoc false b d = refl

or_nothing : (b : Bool) → (b || false) ≡ b
or_nothing true = refl
or_nothing false = refl

pub covered_append : (xs ys : List Range) (at : ℕ) → is_covered (xs ++ ys) at ≡ (is_covered xs at || is_covered ys at)
covered_append xs ys at = list_any-append (λ range. is_in range at) xs ys

-- some more were covered, and the rest is left
pub covered_step : (old new here rest : List Range) (at : ℕ) → is_covered new at ≡ (is_covered old at || is_covered here at)
    → (is_covered new at || is_covered rest at) ≡ (is_covered old at || is_covered (here ++ rest) at)
covered_step old new here rest at h =
    ap (λ b. b || is_covered rest at) h ∙ or_left_assoc (is_covered old at) (is_covered here at) (is_covered rest at)
    ∙ ap (λ b. is_covered old at || b) (sym (covered_append here rest at))

pub covered_all : (xs : List Range) (at : ℕ) → (is_covered xs at || is_covered [] at) ≡ is_covered xs at
covered_all xs at = or_nothing (is_covered xs at)

pub ranges_append : {T : Type 0} (cells : List (Cell T)) (xs ys : List Stamp) → ranges_of_visible cells (xs ++ ys) ≡ ranges_of_visible cells xs ++ ranges_of_visible cells ys
ranges_append cells [] ys = refl
ranges_append cells (x ∷ xs) ys =
    ap (λ l. range_at (visible_place cells x) ++ l) (ranges_append cells xs ys)
    ∙ sym (append_assoc (range_at (visible_place cells x)) (ranges_of_visible cells xs) (ranges_of_visible cells ys))

-- the characters of a span from a count on
pub from_more : (site first last : ℕ) → first < last + 1 → stamps_from site first (last + 1 - first) ≡ record { count = first; site = site } ∷ stamps_from site (first + 1) (last + 1 - (first + 1))
from_more site first last lt =
    let e : last + 1 - first ≡ suc (last + 1 - (first + 1)) = omega arith in
    ap (stamps_from site first) e

pub from_none : (site first last : ℕ) → last + 1 ≤ first → stamps_from site first (last + 1 - first) ≡ []
from_none site first last le =
    let e : last + 1 - first ≡ 0 = omega arith in
    ap (stamps_from site first) e

-- the span at an index, and those behind it
pub spans_more : (spans : List Span) (i : ℕ) (d : Span) → i < length spans → stamps_in (drop i spans) ≡ stamps_of_span (get_or spans i d) ++ stamps_in (drop (i + 1) spans)
spans_more spans i d lt = ap stamps_in (drop_more spans i d lt)

-- A PLACE MORE

covered_last : (front : List Range) (range : Range) (at : ℕ) → is_covered (front ++ range ∷ []) at ≡ (is_covered front at || is_in range at)
covered_last front range at = covered_append front (range ∷ []) at ∙ ap (λ b. is_covered front at || b) (or_nothing (is_in range at))

joined_range : (last : Range) (place at : ℕ) → is_behind last place ≡ true → is_in (record { from = last.from; to = place + 1 }) at ≡ (is_in last at || is_in (record { from = place; to = place + 1 }) at)
joined_range last place at e = grind (arith, nat_tests, e)

pub placed_behind : (front : List Range) (last : Range) (place at : ℕ) → is_behind last place ≡ true
    → is_covered (front ++ record { from = last.from; to = place + 1 } ∷ []) at ≡ (is_covered (front ++ last ∷ []) at || is_covered (range_at (Some place)) at)
placed_behind front last place at e =
    covered_last front (record { from = last.from; to = place + 1 }) at
    ∙ ap (λ b. is_covered front at || b) (joined_range last place at e)
    ∙ sym (or_left_assoc (is_covered front at) (is_in last at) (is_in (record { from = place; to = place + 1 }) at))
    ∙ (λ i. sym (covered_last front last at) i || sym (or_nothing (is_in (record { from = place; to = place + 1 }) at)) i)

pub placed_alone : (front : List Range) (place at : ℕ)
    → is_covered (front ++ record { from = place; to = place + 1 } ∷ []) at ≡ (is_covered front at || is_covered (range_at (Some place)) at)
placed_alone front place at = covered_append front (record { from = place; to = place + 1 } ∷ []) at

-- ranges in order stay so where the last one is longer
pub order_joined : (front : List Range) (last : Range) (place : ℕ) (more : List Range) (n : ℕ) → is_behind last place ≡ true
    → RangesFollow n (((front ++ last ∷ []) ++ record { from = place; to = place + 1 } ∷ []) ++ more) → RangesFollow n ((front ++ record { from = last.from; to = place + 1 } ∷ []) ++ more)
order_joined [] last place more n e h =
    let le : last.from ≤ place = omega (arith, h.1, h.2.0) in
    (h.0, omega (arith, le), h.2.2)
order_joined (r ∷ front) last place more n e h = (h.0, h.1, order_joined front last place more r.to e h.2)
