-- The first range from a place on, by the nearest places that pass and don't.
use Rattle.std.proofs.Common.{◌≡◌, ℕ, zero, suc, ◌+◌, ◌-◌, ◌<◌, ◌≤◌, inl, inr, List, [], ◌∷◌, length, Bool, true, false, not, arith, refl, sym, ap, ◌∙◌, subst, Option, Some, None, option_map}
use Rattle.std.specs.Prelude.{Any, Decides, eqb, slice_get, unwrap_or}
use Rattle.std.specs.Option.{option_eq}
use Rattle.std.proofs.lemmas.Bool.{cases_eq, cases_lt, eq-eqb, eqb-true}
use Rattle.rt_plans.specs.declared.range.Range.{Range}
use Rattle.rt_tagcmd.specs.TagRanges.{IsClearFrom, IsIn, IsMaximal, PassUpTo, first_range_from, passing_ranges}
use Rattle.rt_store.specs.Tagged.{Passes, IsLeastFrom, next_place}
use Rattle.rt_store.proofs.Least.{least, no_next}
use Rattle.rt_tagcmd.proofs.Runs.{IsMax, each_max, first_found, first_none, text_runs}
use Rattle.rt_tagcmd.proofs.TagRangeLaws.{each_maximal, is_max, passing_within, place_covered}

-- WHERE PLACES PASS NO MORE

pub opposite : {A : Type 0} (test : A → Bool) (cs : List A) (k : ℕ) → k < length cs → (Passes (λ c. not (test c)) cs k → ⊥) → Passes test cs k
opposite test [] k l n = absurd (omega arith)
opposite test (c ∷ cs) zero l n = by_test (test c) n
  where
    by_test : (t : Bool) → (Some (not t) ≡ Some true → ⊥) → Some t ≡ Some true
    by_test true n = refl
    by_test false n = absurd (n refl)
opposite test (c ∷ cs) (suc k) l n = opposite test cs k (omega arith) n

pub clash : {A : Type 0} (test : A → Bool) (cs : List A) (k : ℕ) → Passes (λ c. not (test c)) cs k → Passes test cs k → ⊥
clash {A = A} test cs k = by_option (slice_get cs k)
  where
    by_test : (t : Bool) → Some (not t) ≡ Some true → Some t ≡ Some true → ⊥
    by_test true g h = let bad : ⊥ = cc in bad
    by_test false g h = let bad : ⊥ = cc in bad

    by_option : (o : Option A) → option_map (λ c. not (test c)) o ≡ Some true → option_map test o ≡ Some true → ⊥
    by_option None g h = let bad : ⊥ = cc in bad
    by_option (Some c) g h = by_test (test c) g h

past_text : {A : Type 0} (test : A → Bool) (cs : List A) → Passes test cs (length cs) → ⊥
past_text test cs p = let l = passing_within test cs (length cs) p in omega arith

up_to_next : {A : Type 0} (test : A → Bool) (cs : List A) (from : ℕ) (o : Option ℕ) → from ≤ length cs → o ≡ next_place (λ c. not (test c)) cs from → PassUpTo test cs from (unwrap_or o (length cs))
up_to_next test cs from None l e =
    record { from = l; within = omega arith; passes = λ k m n. opposite test cs k n (no_next (λ c. not (test c)) cs from k (sym e) m); none_behind = past_text test cs }
up_to_next test cs from (Some to) l e =
    let next = least (λ c. not (test c)) cs from to (sym e) in
    let less = passing_within (λ c. not (test c)) cs to next.passes in
    record { from = next.from; within = omega arith; passes = λ k m n. opposite test cs k (omega arith) (next.none_before k m n); none_behind = clash test cs to next.passes }

-- the end that is given where there is no such place
pub passing_end : {A : Type 0} (test : A → Bool) (cs : List A) (from : ℕ) (o : Option ℕ) (last end : ℕ) → from ≤ length cs → o ≡ next_place (λ c. not (test c)) cs from → last ≡ length cs → end ≡ unwrap_or o last → PassUpTo test cs from end
passing_end test cs from o last end l e same is = subst (PassUpTo test cs from) (sym (is ∙ ap (unwrap_or o) same)) (up_to_next test cs from o l e)

-- whether the next place is the one itself
same_option : (o : Option ℕ) (k : ℕ) → option_eq eqb o (Some k) ≡ true → o ≡ Some k
same_option None k h = let bad : ⊥ = cc in absurd bad
same_option (Some n) k h = ap (λ m. Some m) (eqb-true n k h)

option_same : (o : Option ℕ) (k : ℕ) → o ≡ Some k → option_eq eqb o (Some k) ≡ true
option_same o k e = ap (λ p. option_eq eqb p (Some k)) e ∙ eq-eqb k k refl

next_is_here : {A : Type 0} (test : A → Bool) (cs : List A) (place : ℕ) (o : Option ℕ) → o ≡ next_place test cs place → Passes test cs place → o ≡ Some place
next_is_here test cs place None e p = absurd (no_next test cs place place (sym e) (omega arith) p)
next_is_here test cs place (Some n) e p =
    let next = least test cs place n (sym e) in
    let from = next.from in
    elim (cases_lt place n) [
      | inl l ↦ absurd (next.none_before place (omega arith) l p)
      | inr l ↦ ap (λ k. Some k) (omega arith)
    ]

pub tells : {A : Type 0} (test : A → Bool) (cs : List A) (place : ℕ) (o : Option ℕ) (b : Bool) → o ≡ next_place test cs place → b ≡ option_eq eqb o (Some place) → Decides b (Passes test cs place)
tells test cs place o b e h =
    (λ t. (least test cs place place (sym e ∙ same_option o place (sym h ∙ t))).passes, λ p. h ∙ option_same o place (next_is_here test cs place o e p))

-- PAST THE RANGE THAT REACHES OVER A PLACE

pub clear_past : {A : Type 0} (test : A → Bool) (cs : List A) (place clear : ℕ) → 0 < place → Passes test cs (place - 1) → PassUpTo test cs place clear → IsClearFrom test cs place clear
clear_past test cs place clear some p h = record { from = h.from; begin_later = begin_later; end_before = end_before }
  where
    passes_before : (k : ℕ) → place ≤ k + 1 → k < clear → Passes test cs k
    passes_before k l m = elim (cases_eq (place - 1) k) [ inl e ↦ subst (Passes test cs) e p | inr d ↦ h.passes k (omega arith) m ]

    begin_later : (range : Range) → IsMaximal test cs range → place ≤ range.from → clear ≤ range.from
    begin_later range r l = elim (cases_lt range.from clear) [
      | inl m ↦ absurd (r.none_before (range.from - 1) (omega arith) (passes_before (range.from - 1) (omega arith) (omega arith)))
      | inr m ↦ m
    ]

    end_before : (range : Range) → IsMaximal test cs range → range.from < clear → range.to ≤ clear
    end_before range r l = elim (cases_lt clear range.to) [
      | inl m ↦ absurd (h.none_behind (r.passes clear (omega arith) m))
      | inr m ↦ m
    ]

-- THE RANGE

-- a place that passes behind one that a range doesn't reach over
begins : {A : Type 0} (test : A → Bool) (cs : List A) (place clear from to : ℕ) → IsClearFrom test cs place clear → IsLeastFrom test cs clear from → PassUpTo test cs from to → IsMax (Passes test cs) (record { from = from; to = to })
begins test cs place clear from to c f h = record { not_empty = full; all = h.passes; before = before; behind = h.none_behind }
  where
    full : from < to
    full = let long = h.from in elim (cases_eq from to) [ inl e ↦ absurd (h.none_behind (subst (Passes test cs) e f.passes)) | inr d ↦ omega arith ]

    -- one that passes right before it would be in a range that reaches over the place
    joins : (k : ℕ) → k + 1 ≡ from → k < clear → Any (IsIn k) (passing_ranges test cs) → ⊥
    joins k e l h =
        let range = subst (IsMaximal test cs) h.3 (each_maximal test cs h.0 h.1 h.2) in
        let least_one = f.from in
        let begin = h.4.0 in
        let end = h.4.1 in
        let ends = c.end_before h.1 range (omega arith) in
        let same : from ≡ h.1.to = omega arith in
        range.none_behind (subst (Passes test cs) same f.passes)

    before : (k : ℕ) → k + 1 ≡ from → Passes test cs k → ⊥
    before k e p = elim (cases_lt k clear) [ inl l ↦ joins k e l (place_covered test cs k p) | inr l ↦ f.none_before k l (omega arith) p ]

pub range_found : {A : Type 0} (test : A → Bool) (cs : List A) (place clear from to : ℕ) → IsClearFrom test cs place clear → next_place test cs clear ≡ Some from → PassUpTo test cs from to
    → first_range_from place (passing_ranges test cs) ≡ Some (record { from = from; to = to })
range_found test cs place clear from to c e h =
    let next = least test cs clear from e in
    let least_one = next.from in
    let clear_from = c.from in
    first_found (Passes test cs) 0 (passing_ranges test cs) place (record { from = from; to = to }) (text_runs test cs) (λ k f p. absurd (omega arith)) (begins test cs place clear from to c next h) (omega arith) (omega arith) earlier
  where
    earlier : (s : Range) → IsMax (Passes test cs) s → place ≤ s.from → from ≤ s.from
    earlier s m l =
        let next = least test cs clear from e in
        let later = c.begin_later s (is_max test cs s m) l in
        elim (cases_lt s.from from) [
          | inl n ↦ absurd (next.none_before s.from later n (m.all s.from (omega arith) m.not_empty))
          | inr n ↦ n
        ]

pub no_range : {A : Type 0} (test : A → Bool) (cs : List A) (place clear : ℕ) → IsClearFrom test cs place clear → next_place test cs clear ≡ None → first_range_from place (passing_ranges test cs) ≡ None
no_range test cs place clear c e =
    first_none (Passes test cs) (passing_ranges test cs) place (each_max (Passes test cs) 0 (passing_ranges test cs) (text_runs test cs) (λ k f p. absurd (omega arith)))
    (λ s m l. no_next test cs clear s.from e (c.begin_later s (is_max test cs s m) l) (m.all s.from (omega arith) m.not_empty))
