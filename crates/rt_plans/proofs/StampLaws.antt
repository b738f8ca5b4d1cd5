-- Stamps at the places of ranges, one range more.
use Rattle.std.proofs.Common.{◌≡◌, ℕ, zero, suc, ◌+◌, ◌-◌, ◌<◌, ◌≤◌, All, List, [], ◌∷◌, ◌++◌, Bool, true, false, cond, not, ◌||◌, length, take, drop, get_or, refl, sym, ◌∙◌, ap, subst, arith, add-zero}
use Rattle.std.specs.Prelude.{slice_get, nat_le, nat_lt, Some}
use Rattle.std.proofs.lemmas.Bool.{or_from, or_left, and_left, and_right, and_from, cond-true, cond-false, lt-leb, le-leb, lt-ltb, le-ltb}
use Rattle.std.proofs.lemmas.List.Elements.{All-head, All-tail}
use Rattle.std.proofs.lemmas.List.{drop_more, take_more, get_or-drop, length-drop, drop-drop}
use Rattle.std.proofs.lemmas.Option.{get_or_from_slice_get}
use Rattle.rt_stamps.specs.declared.stamp.Stamp.{Stamp}
use Rattle.rt_store.specs.declared.cell.Cell.{Cell}
use Rattle.rt_store.specs.Cells.{visible_of, stamps_of}
use Rattle.rt_plans.specs.declared.range.Range.{Range}
use Rattle.rt_plans.specs.Removals.{is_in, is_covered, stamps_at, RangesFollow}

-- the stamps of visible cells at some places
abbrev pub picked : {T : Type 0} → (ℕ → Bool) → ℕ → List (Cell T) → List Stamp
picked r p [] = []
picked r p (c ∷ cs) = cond (r p) (c.stamp ∷ picked r (p + 1) cs) (picked r (p + 1) cs)

pub picked_visible : {T : Type 0} (r : ℕ → Bool) (p : ℕ) (cells : List (Cell T)) → stamps_at r p cells ≡ picked r p (visible_of cells)
picked_visible r p [] = refl
picked_visible r p (c ∷ cs) = step c.gone (picked_visible r p cs) (picked_visible r (p + 1) cs)
  where
    step : (b : Bool) → stamps_at r p cs ≡ picked r p (visible_of cs) → stamps_at r (p + 1) cs ≡ picked r (p + 1) (visible_of cs)
        → cond b (stamps_at r p cs) (cond (r p) (c.stamp ∷ stamps_at r (p + 1) cs) (stamps_at r (p + 1) cs)) ≡ picked r p (cond (not b) (c ∷ visible_of cs) (visible_of cs))
    step true h k = h
    step false h k = λ i. cond (r p) (c.stamp ∷ k i) (k i)

-- none of some places
none_picked : {T : Type 0} (k : ℕ) (r : ℕ → Bool) (p : ℕ) (cs : List (Cell T)) → ((q : ℕ) → p ≤ q → q < p + k → r q ≡ false) → picked r p cs ≡ picked r (p + k) (drop k cs)
none_picked zero r p cs h = ap (λ n. picked r n cs) (sym (add-zero p))
none_picked (suc k) r p [] h = refl
none_picked (suc k) r p (c ∷ cs) h =
    let at : p + 1 + k ≡ p + suc k = omega arith in
    cond-false (r p) _ _ (h p (omega arith) (omega arith)) ∙ none_picked k r (p + 1) cs (λ q a b. h q (omega arith) (omega arith)) ∙ ap (λ n. picked r n (drop k cs)) at

-- all of some places
all_picked : {T : Type 0} (k : ℕ) (r : ℕ → Bool) (p : ℕ) (cs : List (Cell T)) → ((q : ℕ) → p ≤ q → q < p + k → r q ≡ true) → picked r p cs ≡ stamps_of (take k cs) ++ picked r (p + k) (drop k cs)
all_picked zero r p cs h = ap (λ n. picked r n cs) (sym (add-zero p))
all_picked (suc k) r p [] h = refl
all_picked (suc k) r p (c ∷ cs) h =
    let at : p + 1 + k ≡ p + suc k = omega arith in
    cond-true (r p) _ _ (h p (omega arith) (omega arith))
    ∙ ap (λ l. c.stamp ∷ l) (all_picked k r (p + 1) cs (λ q a b. h q (omega arith) (omega arith)) ∙ ap (λ n. stamps_of (take k cs) ++ picked r n (drop k cs)) at)

-- places that are alike from one on
alike_picked : {T : Type 0} (r s : ℕ → Bool) (p : ℕ) (cs : List (Cell T)) → ((q : ℕ) → p ≤ q → r q ≡ s q) → picked r p cs ≡ picked s p cs
alike_picked r s p [] h = refl
alike_picked r s p (c ∷ cs) h =
    let rest = alike_picked r s (p + 1) cs (λ q a. h q (omega arith)) in
    λ i. cond (h p (omega arith) i) (c.stamp ∷ rest i) (rest i)

-- ranges in order begin no earlier
pub order_weaker : (p q : ℕ) (ranges : List Range) → q ≤ p → RangesFollow p ranges → RangesFollow q ranges
order_weaker p q [] h k = tt
order_weaker p q (range ∷ ranges) h k = (omega (arith, k.0), k.1, k.2)

in_before : (range : Range) (q : ℕ) → q < range.from → is_in range q ≡ false
in_before range q h = and_left (nat_le range.from q) _ (lt-leb range.from q h)

pub in_after : (range : Range) (q : ℕ) → range.to ≤ q → is_in range q ≡ false
in_after range q h = and_right _ (nat_lt q range.to) (le-ltb q range.to h)

in_within : (range : Range) (q : ℕ) → range.from ≤ q → q < range.to → is_in range q ≡ true
in_within range q h k = and_from (nat_le range.from q) (nat_lt q range.to) (le-leb range.from q h) (lt-ltb q range.to k)

pub before_all : (p : ℕ) (ranges : List Range) (q : ℕ) → RangesFollow p ranges → q < p → is_covered ranges q ≡ false
before_all p [] q h k = refl
before_all p (range ∷ ranges) q h k = or_from (is_in range q) _ (in_before range q (omega (arith, h.0))) (before_all range.to ranges q h.2 (omega (arith, h.0, h.1)))

-- ranges that end before a place don't reach one that isn't before it by more than one
pub uncovered_from : (ranges : List Range) (n q : ℕ) → All (λ range. range.to < n) ranges → n ≤ q + 1 → is_covered ranges q ≡ false
uncovered_from [] n q h k = refl
uncovered_from (range ∷ ranges) n q h k =
    let first : range.to < n = All-head (λ (r : Range). r.to < n) range ranges h in
    or_from (is_in range q) _ (in_after range q (omega arith)) (uncovered_from ranges n q (All-tail (λ (r : Range). r.to < n) range ranges h) k)

-- the first of the ranges, and the others
range_picked : {T : Type 0} (range : Range) (ranges : List Range) (cs : List (Cell T)) → RangesFollow 0 (range ∷ ranges)
    → picked (is_covered (range ∷ ranges)) 0 cs ≡ stamps_of (take (range.to - range.from) (drop range.from cs)) ++ picked (is_covered ranges) 0 cs
range_picked range ranges cs h =
    let r : ℕ → Bool = is_covered (range ∷ ranges) in
    let from = range.from in
    let k = range.to - range.from in
    let up : from + k ≡ range.to = omega (arith, h.1) in
    let at_from : 0 + from ≡ from = omega arith in
    let at_to : 0 + range.to ≡ range.to = omega arith in
    let first : picked r 0 cs ≡ picked r from (drop from cs) =
    none_picked from r 0 cs (λ q a b. or_from (is_in range q) _ (in_before range q (omega arith)) (before_all range.to ranges q h.2 (omega (arith, h.1)))) ∙ ap (λ n. picked r n (drop from cs)) at_from in
    let mid : picked r from (drop from cs) ≡ stamps_of (take k (drop from cs)) ++ picked r (from + k) (drop k (drop from cs)) =
    all_picked k r from (drop from cs) (λ q a b. or_left (is_in range q) _ (in_within range q a (omega arith))) in
    let there : picked r (from + k) (drop k (drop from cs)) ≡ picked r range.to (drop range.to cs) =
    ap (λ l. picked r (from + k) l) (drop-drop k from cs) ∙ ap (λ n. picked r n (drop n cs)) up in
    let alike : picked r range.to (drop range.to cs) ≡ picked (is_covered ranges) range.to (drop range.to cs) =
    alike_picked r (is_covered ranges) range.to (drop range.to cs) (λ q a. ap (λ b. b || is_covered ranges q) (in_after range q a)) in
    let back : picked (is_covered ranges) 0 cs ≡ picked (is_covered ranges) range.to (drop range.to cs) =
    none_picked range.to (is_covered ranges) 0 cs (λ q a b. before_all range.to ranges q h.2 (omega arith)) ∙ ap (λ n. picked (is_covered ranges) n (drop range.to cs)) at_to in
    first ∙ mid ∙ ap (λ l. stamps_of (take k (drop from cs)) ++ l) (there ∙ alike ∙ sym back)

-- one range more
pub ranges_more : {T : Type 0} (cells : List (Cell T)) (ranges : List Range) (i : ℕ) (d : Range) → i < length ranges → RangesFollow 0 (drop i ranges)
    → stamps_at (is_covered (drop i ranges)) 0 cells
    ≡ stamps_of (take ((get_or ranges i d).to - (get_or ranges i d).from) (drop (get_or ranges i d).from (visible_of cells))) ++ stamps_at (is_covered (drop (i + 1) ranges)) 0 cells
ranges_more cells ranges i d h k =
    let range = get_or ranges i d in
    let rest = drop (i + 1) ranges in
    let e : drop i ranges ≡ range ∷ rest = drop_more ranges i d h in
    picked_visible (is_covered (drop i ranges)) 0 cells ∙ ap (λ l. picked (is_covered l) 0 (visible_of cells)) e
    ∙ range_picked range rest (visible_of cells) (subst (RangesFollow 0) e k)
    ∙ ap (λ l. stamps_of (take (range.to - range.from) (drop range.from (visible_of cells))) ++ l) (sym (picked_visible (is_covered rest) 0 cells))

pub order_more : (ranges : List Range) (i : ℕ) → i < length ranges → RangesFollow 0 (drop i ranges) → RangesFollow 0 (drop (i + 1) ranges)
order_more ranges i h k =
    let d : Range = record { from = 0; to = 0 } in
    let e : drop i ranges ≡ get_or ranges i d ∷ drop (i + 1) ranges = drop_more ranges i d h in
    let k2 : RangesFollow 0 (get_or ranges i d ∷ drop (i + 1) ranges) = subst (RangesFollow 0) e k in
    order_weaker (get_or ranges i d).to 0 (drop (i + 1) ranges) (omega arith) k2.2

pub order_at : (ranges : List Range) (i : ℕ) (d : Range) → i < length ranges → RangesFollow 0 (drop i ranges) → (get_or ranges i d).from ≤ (get_or ranges i d).to
order_at ranges i d h k =
    let k2 : RangesFollow 0 (get_or ranges i d ∷ drop (i + 1) ranges) = subst (RangesFollow 0) (drop_more ranges i d h) k in
    omega (arith, k2.1)

pub none_at : {T : Type 0} (p : ℕ) (cells : List (Cell T)) → stamps_at (is_covered []) p cells ≡ []
none_at p [] = refl
none_at p (c ∷ cs) = step c.gone (none_at p cs) (none_at (p + 1) cs)
  where
    step : (b : Bool) → stamps_at (is_covered []) p cs ≡ [] → stamps_at (is_covered []) (p + 1) cs ≡ [] → cond b (stamps_at (is_covered []) p cs) (stamps_at (is_covered []) (p + 1) cs) ≡ []
    step true h k = h
    step false h k = k

-- one place more
pub places_more : {T : Type 0} (cs : List (Cell T)) (from place : ℕ) (cell : Cell T) → from ≤ place → place < length cs → slice_get cs place ≡ Some cell
    → stamps_of (take (place + 1 - from) (drop from cs)) ≡ stamps_of (take (place - from) (drop from cs)) ++ cell.stamp ∷ []
places_more {T} cs from place cell h k e =
    let next : place + 1 - from ≡ place - from + 1 = omega arith in
    let place_is : from + (place - from) ≡ place = omega arith in
    let within : place - from < length (drop from cs) = omega (arith, length-drop from cs) in
    let item : get_or (drop from cs) (place - from) cell ≡ cell = get_or-drop from cs (place - from) cell ∙ ap (λ i. get_or cs i cell) place_is ∙ get_or_from_slice_get cs place cell cell e in
    ap (λ n. stamps_of (take n (drop from cs))) next ∙ ap stamps_of (take_more (drop from cs) (place - from) cell within ∙ ap (λ x. take (place - from) (drop from cs) ++ x ∷ []) item)
    ∙ stamps_append (take (place - from) (drop from cs)) (cell ∷ [])
  where
    stamps_append : (xs ys : List (Cell T)) → stamps_of (xs ++ ys) ≡ stamps_of xs ++ stamps_of ys
    stamps_append [] ys = refl
    stamps_append (x ∷ xs) ys = ap (λ l. x.stamp ∷ l) (stamps_append xs ys)
