-- Stamps that differ.
use Rattle.std.proofs.Common.{◌≡◌, ℕ, suc, ◌==◌, ◌<◌, ◌≤◌, List, [], ◌∷◌, Bool, true, false, refl, ◌∙◌, ap, arith}
use Rattle.std.specs.List.{IsDistinct, AllByRecursion}
use Rattle.std.proofs.lemmas.Bool.{or_from, or_parts, both_ways, and_left, and_right, eqb-true, ne_eqb}
use Rattle.std.proofs.lemmas.Map.Keys.{IsDistinct-cons, IsDistinct-head, IsDistinct-tail}
use Rattle.rt_stamps.specs.declared.stamp.Stamp.{Stamp}
use Rattle.rt_stamps.specs.Stamps.{is_same}
use Rattle.rt_stamps.proofs.Order.{same_sym, same_from_true}
use Rattle.rt_store.specs.declared.cell.Cell.{Cell}
use Rattle.rt_store.specs.Cells.{stamps_of}
use Rattle.rt_store.specs.Spans.{is_among}
use Rattle.rt_store.specs.Written.{AreBelowNext, IsBelowNext}

-- a test is true or false
pub split : {A : Type 0} (b : Bool) → (b ≡ true → A) → (b ≡ false → A) → A
split true f g = f refl
split false f g = g refl

none_same : (s : Stamp) (ss : List Stamp) → AllByRecursion (λ t. is_same s t ≡ false) ss → is_among ss s ≡ false
none_same s [] h = refl
none_same s (t ∷ ss) h = or_from (is_same t s) (is_among ss s) (same_sym t s ∙ h.0) (none_same s ss h.1)

all_differ : (s : Stamp) (ss : List Stamp) → is_among ss s ≡ false → AllByRecursion (λ t. is_same s t ≡ false) ss
all_differ s [] h = tt
all_differ s (t ∷ ss) h =
    let p = or_parts (is_same t s) (is_among ss s) h in
    (same_sym s t ∙ p.0, all_differ s ss p.1)

pub none_distinct : IsDistinct is_same []
unfolding IsDistinct
none_distinct = tt

-- the first of distinct stamps is not among the others
pub first_apart : (s : Stamp) (ss : List Stamp) → IsDistinct is_same (s ∷ ss) → is_among ss s ≡ false
first_apart s ss h = none_same s ss (IsDistinct-head is_same s ss h)

pub others_distinct : (s : Stamp) (ss : List Stamp) → IsDistinct is_same (s ∷ ss) → IsDistinct is_same ss
others_distinct s ss h = IsDistinct-tail is_same s ss h

-- one more stamp, which is not among them
pub distinct_more : (s : Stamp) (ss : List Stamp) → is_among ss s ≡ false → IsDistinct is_same ss → IsDistinct is_same (s ∷ ss)
distinct_more s ss h k = IsDistinct-cons is_same s ss (all_differ s ss h) k

-- a stamp among some is not the one that isn't
pub differs : (s t : Stamp) (ss : List Stamp) → is_among ss s ≡ false → is_among ss t ≡ true → is_same s t ≡ false
differs s t ss h k = split (is_same s t)
    (λ e. absurd (both_ways (is_among ss s) h (ap (is_among ss) (same_from_true s t e) ∙ k)))
    (λ e. e)

-- NEW CELLS

-- a stamp of a new count is no known one
apart_known : (count n site : ℕ) (old : Stamp) → IsBelowNext count old → count < n → 1 ≤ site → is_same old (record { count = n; site = site }) ≡ false
apart_known count n site old h k l = split (old.count == n)
    (λ e. let c : old.count ≡ n = eqb-true old.count n e in and_right _ _ (ne_eqb old.site site (λ q. absurd (omega (arith, h.0, h.1 (omega (arith, h.0)))))))
    (λ e. and_left _ _ e)

pub new_apart : {T : Type 0} (count n site : ℕ) (cells : List (Cell T)) → AreBelowNext count cells → count < n → 1 ≤ site → is_among (stamps_of cells) (record { count = n; site = site }) ≡ false
new_apart count n site [] h k l = refl
new_apart count n site (x ∷ xs) h k l =
    or_from (is_same x.stamp (record { count = n; site = site })) _ (apart_known count n site x.stamp (h 0 x (omega arith)) k l)
    (new_apart count n site xs (λ i d lt. h (suc i) d (omega arith)) k l)
