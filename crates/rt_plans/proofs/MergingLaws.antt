-- Ranges that are cut, sorted and merged cover the same places.
use Rattle.std.proofs.Common.{◌≡◌, ℕ, suc, ◌+◌, ◌<◌, ◌≤◌, List, [], ◌∷◌, ◌++◌, Bool, true, false, cond, ◌&&◌, length, drop, get_or, min, max, refl, sym, ◌∙◌, ap, arith, All, append-nil}
use Rattle.std.specs.Prelude.{nat_lt, nat_le, ◌||◌, if◌then◌else◌}
use Rattle.std.specs.List.Sorted.{IsNonDecreasingBy}
use Rattle.std.proofs.lemmas.Bool.{leb-true, leb-false, ltb-true, ltb-false}
use Rattle.std.proofs.lemmas.Bool.Decides.{nat_tests}
use Rattle.std.proofs.lemmas.List.{drop_all}
use Rattle.std.proofs.lemmas.List.Elements.{All-cons, All-nil}
use Rattle.rt_plans.specs.declared.range.Range.{Range}
use Rattle.rt_plans.specs.Merging.{RangesRise, AreSpaced}
use Rattle.rt_plans.specs.Removals.{is_in, is_covered}

-- CUT

-- the ranges up to an end, without those that are empty then
abbrev pub before : ℕ → List Range → List Range
before end [] = []
before end (range ∷ ranges) =
    if nat_lt range.from (min range.to end) then record { from = range.from; to = min range.to end } ∷ before end ranges else before end ranges

cut_some : (from to end place : ℕ) (rest : Bool) → from < min to end
    → (nat_le from place && nat_lt place (min to end) || (nat_lt place end && rest)) ≡ (nat_lt place end && (nat_le from place && nat_lt place to || rest))
cut_some from to end place true h = grind (arith, nat_tests)
cut_some from to end place false h = grind (arith, nat_tests)

cut_none : (from to end place : ℕ) (rest : Bool) → min to end ≤ from
    → (nat_lt place end && rest) ≡ (nat_lt place end && (nat_le from place && nat_lt place to || rest))
cut_none from to end place true h = grind (arith, nat_tests)
cut_none from to end place false h = grind (arith, nat_tests)

-- a place before the end is covered as it was
pub before_covers : (end : ℕ) (ranges : List Range) (place : ℕ) → is_covered (before end ranges) place ≡ (nat_lt place end && is_covered ranges place)
before_covers end [] place = elim (nat_lt place end) as (λ b. false ≡ (b && false)) [ true ↦ refl | false ↦ refl ]
before_covers end (range ∷ ranges) place =
    elim (nat_lt range.from (min range.to end)) as
    (λ b. nat_lt range.from (min range.to end) ≡ b
    → is_covered (cond b (record { from = range.from; to = min range.to end } ∷ before end ranges) (before end ranges)) place
    ≡ (nat_lt place end && (is_in range place || is_covered ranges place))) [
      | true ↦ λ e. ap (λ b. nat_le range.from place && nat_lt place (min range.to end) || b) (before_covers end ranges place)
          ∙ cut_some range.from range.to end place (is_covered ranges place) (ltb-true _ _ e)
      | false ↦ λ e. before_covers end ranges place ∙ cut_none range.from range.to end place (is_covered ranges place) (ltb-false _ _ e)
    ]
    refl

pub before_all : (end : ℕ) (ranges : List Range) → All (λ range. range.from < range.to) (before end ranges)
before_all end [] = All-nil (λ range. range.from < range.to)
before_all end (range ∷ ranges) =
    elim (nat_lt range.from (min range.to end)) as
    (λ b. nat_lt range.from (min range.to end) ≡ b
    → All (λ range. range.from < range.to) (cond b (record { from = range.from; to = min range.to end } ∷ before end ranges) (before end ranges))) [
      | true ↦ λ e. All-cons (λ range. range.from < range.to) (record { from = range.from; to = min range.to end }) (before end ranges) (ltb-true _ _ e) (before_all end ranges)
      | false ↦ λ e. before_all end ranges
    ]
    refl

-- when all are cut
pub before_done : (end : ℕ) (ranges done : List Range) (i : ℕ) → length ranges ≤ i → done ++ before end (drop i ranges) ≡ before end ranges → done ≡ before end ranges
before_done end ranges done i h e = sym (append-nil done) ∙ ap (λ rest. done ++ before end rest) (sym (drop_all i ranges h)) ∙ e

-- SORTED

-- sorted ranges, none of them empty
pub rising : (place : ℕ) (ranges : List Range) → IsNonDecreasingBy (λ range. range.from) ranges → All (λ range. range.from < range.to) ranges
    → ((d : Range) → 0 < length ranges → place ≤ (get_or ranges 0 d).from) → RangesRise place ranges
rising place [] up some first = tt
rising place (range ∷ ranges) up some first = (
  first range (omega arith),
  some 0 range (omega arith),
  rising range.from ranges (λ i j d h k. up (suc i) (suc j) d (omega arith) (omega arith)) (λ k d h. some (suc k) d (omega arith)) (λ d h. up 0 1 d (omega arith) (omega arith)),
)

pub rising_lower : (low high : ℕ) (ranges : List Range) → low ≤ high → RangesRise high ranges → RangesRise low ranges
rising_lower low high [] h rises = tt
rising_lower low high (range ∷ ranges) h rises = (omega arith, rises.1, rises.2)

-- MERGED

-- sorted ranges after a first that is still open: those that overlap or touch it become one with it
abbrev pub merged_from : Range → List Range → List Range
merged_from current [] = current ∷ []
merged_from current (range ∷ ranges) =
    if nat_le range.from current.to then merged_from (record { from = current.from; to = max current.to range.to }) ranges else current ∷ merged_from range ranges

joined_covers : (from to begin end place : ℕ) (rest : Bool) → from ≤ begin → begin ≤ to
    → (nat_le from place && nat_lt place (max to end) || rest) ≡ (nat_le from place && nat_lt place to || (nat_le begin place && nat_lt place end || rest))
joined_covers from to begin end place true h k = grind (arith, nat_tests)
joined_covers from to begin end place false h k = grind (arith, nat_tests)

-- merged ranges cover the places that the ranges cover
pub merged_covers : (current : Range) (ranges : List Range) (place : ℕ) → RangesRise current.from ranges → is_covered (merged_from current ranges) place ≡ is_covered (current ∷ ranges) place
merged_covers current [] place rises = refl
merged_covers current (range ∷ ranges) place rises =
    elim (nat_le range.from current.to) as
    (λ b. nat_le range.from current.to ≡ b
    → is_covered (cond b (merged_from (record { from = current.from; to = max current.to range.to }) ranges) (current ∷ merged_from range ranges)) place
    ≡ (is_in current place || (is_in range place || is_covered ranges place))) [
      | true ↦ λ e. merged_covers (record { from = current.from; to = max current.to range.to }) ranges place (rising_lower current.from range.from ranges rises.0 rises.2)
          ∙ joined_covers current.from current.to range.from range.to place (is_covered ranges place) rises.0 (leb-true _ _ e)
      | false ↦ λ e. ap (λ b. is_in current place || b) (merged_covers range ranges place rises.2)
    ]
    refl

-- between one and the next stands a place
pub merged_stand_apart : (low : ℕ) (current : Range) (ranges : List Range) → low ≤ current.from → current.from < current.to → RangesRise current.from ranges → AreSpaced low (merged_from current ranges)
merged_stand_apart low current [] h k rises = (h, k, tt)
merged_stand_apart low current (range ∷ ranges) h k rises =
    elim (nat_le range.from current.to) as
    (λ b. nat_le range.from current.to ≡ b
    → AreSpaced low (cond b (merged_from (record { from = current.from; to = max current.to range.to }) ranges) (current ∷ merged_from range ranges))) [
      | true ↦ λ e. merged_stand_apart low (record { from = current.from; to = max current.to range.to }) ranges h (omega arith) (rising_lower current.from range.from ranges rises.0 rises.2)
      | false ↦ λ e. (h, k, merged_stand_apart (current.to + 1) range ranges (omega (arith, leb-false _ _ e)) rises.1 rises.2)
    ]
    refl

-- when all are merged
pub merged_done : (current : Range) (ranges done merged : List Range) (i : ℕ) → length ranges ≤ i → done ++ merged_from current (drop i ranges) ≡ merged → done ++ current ∷ [] ≡ merged
merged_done current ranges done merged i h e = ap (λ rest. done ++ merged_from current rest) (sym (drop_all i ranges h)) ∙ e
