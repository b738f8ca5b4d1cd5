-- The greatest stamp of a span decides whether it reaches another one.
use Rattle.std.proofs.Common.{◌≡◌, ℕ, zero, suc, ◌+◌, ◌-◌, Bool, false, not, refl, ap, ◌∙◌, arith, List, [], ◌∷◌, ◌||◌, ◌&&◌, nat_le, nat_lt}
use Rattle.std.proofs.lemmas.Bool.Decides.{nat_tests}
use Rattle.std.specs.List.{list_any, flat_map}
use Rattle.std.proofs.lemmas.List.Folds.{list_any-append}
use Rattle.rt_stamps.specs.declared.stamp.Span.{Span}
use Rattle.rt_stamps.specs.declared.stamp.Stamp.{Stamp}
use Rattle.rt_stamps.specs.Stamps.{is_before}
use Rattle.rt_ops.specs.Operations.{stamps_from, stamps_of_span, stamps_in, reaches}

reach_none : (site first : ℕ) (t : Stamp) → false ≡ (nat_lt 0 0 && not (is_before (record { count = first + 0 - 1; site = site }) t))
reach_none site first t = refl

reach_one : (site first : ℕ) (t : Stamp) → (not (is_before (record { count = first; site = site }) t) || false) ≡ (nat_lt 0 1 && not (is_before (record { count = first + 1 - 1; site = site }) t))
reach_one site first t = grind (arith, nat_tests)

reach_step : (site first n : ℕ) (t : Stamp)
    → (not (is_before (record { count = first; site = site }) t) || (nat_lt 0 (suc n) && not (is_before (record { count = first + 1 + suc n - 1; site = site }) t)))
    ≡ (nat_lt 0 (suc (suc n)) && not (is_before (record { count = first + suc (suc n) - 1; site = site }) t))
reach_step site first n t = grind (arith, nat_tests)

reach_is : (site first n : ℕ) (t : Stamp) → reaches (stamps_from site first n) t ≡ (nat_lt 0 n && not (is_before (record { count = first + n - 1; site = site }) t))
reach_is site first zero t = reach_none site first t
reach_is site first (suc zero) t = reach_one site first t
reach_is site first (suc (suc n)) t = ap (λ b. not (is_before (record { count = first; site = site }) t) || b) (reach_is site (first + 1) (suc n) t) ∙ reach_step site first n t

reach_test : (span : Span) (t : Stamp)
    → (nat_lt 0 (span.last + 1 - span.first) && not (is_before (record { count = span.first + (span.last + 1 - span.first) - 1; site = span.site }) t))
    ≡ (nat_le span.first span.last && not (is_before (record { count = span.last; site = span.site }) t))
reach_test span t = grind (arith, nat_tests)

pub span_reach : (span : Span) (t : Stamp) → reaches (stamps_of_span span) t ≡ (nat_le span.first span.last && not (is_before (record { count = span.last; site = span.site }) t))
span_reach span t = reach_is span.site span.first (span.last + 1 - span.first) t ∙ reach_test span t

any_flat : {X Y : Type 0} (p : Y → Bool) (f : X → List Y) (xs : List X) → list_any p (flat_map f xs) ≡ list_any (λ x. list_any p (f x)) xs
any_flat p f [] = refl
any_flat p f (x ∷ xs) = list_any-append p (f x) (flat_map f xs) ∙ ap (λ b. list_any p (f x) || b) (any_flat p f xs)

pub spans_reach : (spans : List Span) (t : Stamp) → reaches (stamps_in spans) t ≡ list_any (λ span. reaches (stamps_of_span span) t) spans
spans_reach spans t = any_flat (λ s. not (is_before s t)) stamps_of_span spans
