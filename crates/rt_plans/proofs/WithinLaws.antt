-- Ranges within a text.
use Rattle.std.proofs.Common.{◌≡◌, ℕ, ◌+◌, ◌-◌, ◌<◌, ◌≤◌, List, [], ◌∷◌, true, All, arith, IfOk, Ok, Err, Result}
use Rattle.std.specs.Prelude.{nat_le, nat_lt}
use Rattle.std.proofs.lemmas.Bool.{or_left, or_right, and_from, le-leb, lt-ltb}
use Rattle.std.proofs.lemmas.Bool.Decides.{nat_tests}
use Rattle.std.proofs.lemmas.List.Elements.{All-cons, All-nil}
use Rattle.rt_plans.specs.declared.range.Range.{Range}
use Rattle.rt_plans.specs.Merging.{AreSpaced}
use Rattle.rt_plans.specs.Removals.{is_in, is_covered, RangesFollow}
use Rattle.rt_plans.proofs.StampLaws.{order_weaker}

-- ranges that stand apart are in order
pub apart_in_order : (p : ℕ) (ranges : List Range) → AreSpaced p ranges → RangesFollow p ranges
apart_in_order p [] h = tt
apart_in_order p (range ∷ ranges) h = (h.0, h.1, order_weaker (range.to + 1) range.to ranges (omega arith) (apart_in_order (range.to + 1) ranges h.2))

-- where they cover only places of a text, none ends behind it
pub all_within : (n p : ℕ) (ranges : List Range) → RangesFollow p ranges → ((place : ℕ) → is_covered ranges place ≡ true → place < n) → All (λ range. range.to ≤ n) ranges
all_within n p [] h k = All-nil (λ (range : Range). range.to ≤ n)
all_within n p (range ∷ ranges) h k =
    let last = range.to - 1 in
    let inside : is_in range last ≡ true = and_from (nat_le range.from last) (nat_lt last range.to) (le-leb range.from last (omega (arith, h.1))) (lt-ltb last range.to (omega (arith, h.1))) in
    let end : last < n = k last (or_left (is_in range last) (is_covered ranges last) inside) in
    All-cons (λ (r : Range). r.to ≤ n) range ranges (omega (arith, end, h.1)) (all_within n range.to ranges h.2 (λ place e. k place (or_right (is_in range place) (is_covered ranges place) e)))

-- two facts of a value, if there is one
pub both_if_ok : {X Y : Type 0} (r : Result X Y) (P Q R : X → Type 0) → ((x : X) → P x → Q x → R x) → IfOk r P → IfOk r Q → IfOk r R
both_if_ok (Ok x) P Q R f p q = f x p q
both_if_ok (Err y) P Q R f p q = tt

pub less_from : (a b : ℕ) → nat_lt a b ≡ true → a < b
less_from a b h = grind (arith, nat_tests)
