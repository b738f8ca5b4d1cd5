-- Ranges of a stretch as those of the text.
use Rattle.std.proofs.Common.{◌≡◌, ℕ, suc, ◌+◌, ◌-◌, ◌<◌, ◌≤◌, ◌||◌, List, [], ◌∷◌, true, false, All, map, refl, arith}
use Rattle.std.specs.Prelude.{nat_le}
use Rattle.std.proofs.lemmas.Bool.Decides.{nat_tests}
use Rattle.std.proofs.lemmas.List.Elements.{All-cons, All-nil}
use Rattle.rt_store.proofs.Distinct.{split}
use Rattle.rt_plans.specs.declared.range.Range.{Range}
use Rattle.rt_plans.specs.Deletions.{places_from}
use Rattle.rt_plans.specs.Merging.{range_from}
use Rattle.rt_plans.specs.Removals.{RangesFollow, is_covered, is_in}

-- they stay in order
pub moved_in_order : (begin low : ℕ) (ranges : List Range) → RangesFollow low ranges → RangesFollow (begin + low) (map (range_from begin) ranges)
moved_in_order begin low [] h = tt
moved_in_order begin low (range ∷ ranges) h = (omega (arith, h.0), omega (arith, h.1), moved_in_order begin range.to ranges h.2)

-- and cover the places of the stretch
in_before : (begin place : ℕ) (range : Range) → nat_le begin place ≡ false → is_in (range_from begin range) place ≡ false
in_before begin place range h = grind (arith, nat_tests, h)

in_behind : (begin place : ℕ) (range : Range) → nat_le begin place ≡ true → is_in (range_from begin range) place ≡ is_in range (place - begin)
in_behind begin place range h = grind (arith, nat_tests, h)

covered_before : (begin place : ℕ) (ranges : List Range) → nat_le begin place ≡ false → is_covered (map (range_from begin) ranges) place ≡ false
covered_before begin place [] h = refl
covered_before begin place (range ∷ ranges) h = rw (in_before begin place range h) (covered_before begin place ranges h)

covered_behind : (begin place : ℕ) (ranges : List Range) → nat_le begin place ≡ true → is_covered (map (range_from begin) ranges) place ≡ is_covered ranges (place - begin)
covered_behind begin place [] h = refl
covered_behind begin place (range ∷ ranges) h = λ i. in_behind begin place range h i || covered_behind begin place ranges h i

pub moved_covered : (begin place : ℕ) (ranges : List Range) → is_covered (map (range_from begin) ranges) place ≡ places_from begin (is_covered ranges) place
moved_covered begin place ranges = split (nat_le begin place)
    (λ e. rw e (covered_behind begin place ranges e))
    (λ e. rw e (covered_before begin place ranges e))

-- none ends behind the end of the stretch
pub moved_before : (begin n end : ℕ) (ranges : List Range) → begin + n ≡ end → All (λ range. range.to < n) ranges → All (λ range. range.to < end) (map (range_from begin) ranges)
moved_before begin n end [] e h = All-nil (λ (range : Range). range.to < end)
moved_before begin n end (range ∷ ranges) e h =
    All-cons (λ (range : Range). range.to < end) (range_from begin range) (map (range_from begin) ranges) (omega (arith, e, h 0 range (omega arith)))
    (moved_before begin n end ranges e (λ i d lt. h (suc i) d (omega arith)))

pub moved_up_to : (begin n end : ℕ) (ranges : List Range) → begin + n ≡ end → All (λ range. range.to ≤ n) ranges → All (λ range. range.to ≤ end) (map (range_from begin) ranges)
moved_up_to begin n end [] e h = All-nil (λ (range : Range). range.to ≤ end)
moved_up_to begin n end (range ∷ ranges) e h =
    All-cons (λ (range : Range). range.to ≤ end) (range_from begin range) (map (range_from begin) ranges) (omega (arith, e, h 0 range (omega arith)))
    (moved_up_to begin n end ranges e (λ i d lt. h (suc i) d (omega arith)))

-- and their places are numbers
pub moved_fit : (begin n most low : ℕ) (ranges : List Range) → begin + n ≤ most → RangesFollow low ranges → All (λ range. range.to ≤ n) ranges
    → All (λ range. (begin + range.from ≤ most) × (begin + range.to ≤ most)) ranges
moved_fit begin n most low [] e order h = All-nil (λ (range : Range). (begin + range.from ≤ most) × (begin + range.to ≤ most))
moved_fit begin n most low (range ∷ ranges) e order h =
    let last : range.to ≤ n = h 0 range (omega arith) in
    All-cons (λ (range : Range). (begin + range.from ≤ most) × (begin + range.to ≤ most)) range ranges
    (omega (arith, e, last, order.1), omega (arith, e, last))
    (moved_fit begin n most range.to ranges e order.2 (λ i d lt. h (suc i) d (omega arith)))

pub all_weaker : (n : ℕ) (ranges : List Range) → All (λ range. range.to < n) ranges → All (λ range. range.to ≤ n) ranges
all_weaker n ranges h = λ i d lt. omega (arith, h i d lt)
