-- Cells at the places of ranges, one range more.
use Rattle.std.proofs.Common.{◌≡◌, ℕ, zero, suc, ◌+◌, ◌-◌, ◌<◌, ◌≤◌, List, [], ◌∷◌, ◌++◌, Bool, true, false, cond, not, ◌||◌, length, take, drop, get_or, refl, sym, ◌∙◌, ap, subst, arith, add-zero}
use Rattle.std.specs.Prelude.{slice_get, nat_le, nat_lt, Some}
use Rattle.std.proofs.lemmas.Bool.{or_from, or_left, and_left, and_from, cond-true, cond-false, lt-leb, le-leb, lt-ltb}
use Rattle.std.proofs.lemmas.List.{drop_more, take_more, get_or-drop, length-drop, drop-drop}
use Rattle.std.proofs.lemmas.Option.{get_or_from_slice_get}
use Rattle.rt_store.specs.declared.cell.Cell.{Cell}
use Rattle.rt_store.specs.Cells.{visible_of}
use Rattle.rt_plans.specs.declared.range.Range.{Range}
use Rattle.rt_plans.specs.Removals.{is_in, is_covered, cells_at, RangesFollow}
use Rattle.rt_plans.proofs.StampLaws.{in_after, before_all}

-- the cells at some places, of visible ones
abbrev pub chosen : {T : Type 0} → (ℕ → Bool) → ℕ → List (Cell T) → List (Cell T)
chosen r p [] = []
chosen r p (c ∷ cs) = cond (r p) (c ∷ chosen r (p + 1) cs) (chosen r (p + 1) cs)

pub chosen_visible : {T : Type 0} (r : ℕ → Bool) (p : ℕ) (cells : List (Cell T)) → cells_at r p cells ≡ chosen r p (visible_of cells)
chosen_visible r p [] = refl
chosen_visible {T = T} r p (c ∷ cs) = step c.gone (chosen_visible r p cs) (chosen_visible r (p + 1) cs)
  where
    step : (b : Bool) → cells_at r p cs ≡ chosen r p (visible_of cs) → cells_at r (p + 1) cs ≡ chosen r (p + 1) (visible_of cs)
        → cond b (cells_at r p cs) (cond (r p) (c ∷ cells_at r (p + 1) cs) (cells_at r (p + 1) cs)) ≡ chosen r p (cond (not b) (c ∷ visible_of cs) (visible_of cs))
    step true h k = h
    step false h k = λ i. cond (r p) (c ∷ k i) (k i)

-- none of some places
none_chosen : {T : Type 0} (k : ℕ) (r : ℕ → Bool) (p : ℕ) (cs : List (Cell T)) → ((q : ℕ) → p ≤ q → q < p + k → r q ≡ false) → chosen r p cs ≡ chosen r (p + k) (drop k cs)
none_chosen zero r p cs h = ap (λ n. chosen r n cs) (sym (add-zero p))
none_chosen (suc k) r p [] h = refl
none_chosen (suc k) r p (c ∷ cs) h =
    let at : p + 1 + k ≡ p + suc k = omega arith in
    cond-false (r p) _ _ (h p (omega arith) (omega arith)) ∙ none_chosen k r (p + 1) cs (λ q a b. h q (omega arith) (omega arith)) ∙ ap (λ n. chosen r n (drop k cs)) at

-- all of some places
all_chosen : {T : Type 0} (k : ℕ) (r : ℕ → Bool) (p : ℕ) (cs : List (Cell T)) → ((q : ℕ) → p ≤ q → q < p + k → r q ≡ true) → chosen r p cs ≡ take k cs ++ chosen r (p + k) (drop k cs)
all_chosen zero r p cs h = ap (λ n. chosen r n cs) (sym (add-zero p))
all_chosen (suc k) r p [] h = refl
all_chosen (suc k) r p (c ∷ cs) h =
    let at : p + 1 + k ≡ p + suc k = omega arith in
    cond-true (r p) _ _ (h p (omega arith) (omega arith))
    ∙ ap (λ l. c ∷ l) (all_chosen k r (p + 1) cs (λ q a b. h q (omega arith) (omega arith)) ∙ ap (λ n. take k cs ++ chosen r n (drop k cs)) at)

-- places that are alike from one on
alike_chosen : {T : Type 0} (r s : ℕ → Bool) (p : ℕ) (cs : List (Cell T)) → ((q : ℕ) → p ≤ q → r q ≡ s q) → chosen r p cs ≡ chosen s p cs
alike_chosen r s p [] h = refl
alike_chosen r s p (c ∷ cs) h =
    let rest = alike_chosen r s (p + 1) cs (λ q a. h q (omega arith)) in
    λ i. cond (h p (omega arith) i) (c ∷ rest i) (rest i)

in_before : (range : Range) (q : ℕ) → q < range.from → is_in range q ≡ false
in_before range q h = and_left (nat_le range.from q) _ (lt-leb range.from q h)

in_within : (range : Range) (q : ℕ) → range.from ≤ q → q < range.to → is_in range q ≡ true
in_within range q h k = and_from (nat_le range.from q) (nat_lt q range.to) (le-leb range.from q h) (lt-ltb q range.to k)

-- the first of the ranges, and the others
range_chosen : {T : Type 0} (range : Range) (ranges : List Range) (cs : List (Cell T)) → RangesFollow 0 (range ∷ ranges)
    → chosen (is_covered (range ∷ ranges)) 0 cs ≡ take (range.to - range.from) (drop range.from cs) ++ chosen (is_covered ranges) 0 cs
range_chosen range ranges cs h =
    let r : ℕ → Bool = is_covered (range ∷ ranges) in
    let from = range.from in
    let k = range.to - range.from in
    let up : from + k ≡ range.to = omega (arith, h.1) in
    let at_from : 0 + from ≡ from = omega arith in
    let at_to : 0 + range.to ≡ range.to = omega arith in
    let first : chosen r 0 cs ≡ chosen r from (drop from cs) =
    none_chosen from r 0 cs (λ q a b. or_from (is_in range q) _ (in_before range q (omega arith)) (before_all range.to ranges q h.2 (omega (arith, h.1)))) ∙ ap (λ n. chosen r n (drop from cs)) at_from in
    let mid : chosen r from (drop from cs) ≡ take k (drop from cs) ++ chosen r (from + k) (drop k (drop from cs)) =
    all_chosen k r from (drop from cs) (λ q a b. or_left (is_in range q) _ (in_within range q a (omega arith))) in
    let there : chosen r (from + k) (drop k (drop from cs)) ≡ chosen r range.to (drop range.to cs) =
    ap (λ l. chosen r (from + k) l) (drop-drop k from cs) ∙ ap (λ n. chosen r n (drop n cs)) up in
    let alike : chosen r range.to (drop range.to cs) ≡ chosen (is_covered ranges) range.to (drop range.to cs) =
    alike_chosen r (is_covered ranges) range.to (drop range.to cs) (λ q a. ap (λ b. b || is_covered ranges q) (in_after range q a)) in
    let back : chosen (is_covered ranges) 0 cs ≡ chosen (is_covered ranges) range.to (drop range.to cs) =
    none_chosen range.to (is_covered ranges) 0 cs (λ q a b. before_all range.to ranges q h.2 (omega arith)) ∙ ap (λ n. chosen (is_covered ranges) n (drop range.to cs)) at_to in
    first ∙ mid ∙ ap (λ l. take k (drop from cs) ++ l) (there ∙ alike ∙ sym back)

-- one range more
pub ranges_chosen : {T : Type 0} (cells : List (Cell T)) (ranges : List Range) (i : ℕ) (d : Range) → i < length ranges → RangesFollow 0 (drop i ranges)
    → cells_at (is_covered (drop i ranges)) 0 cells
    ≡ take ((get_or ranges i d).to - (get_or ranges i d).from) (drop (get_or ranges i d).from (visible_of cells)) ++ cells_at (is_covered (drop (i + 1) ranges)) 0 cells
ranges_chosen cells ranges i d h k =
    let range = get_or ranges i d in
    let rest = drop (i + 1) ranges in
    let e : drop i ranges ≡ range ∷ rest = drop_more ranges i d h in
    chosen_visible (is_covered (drop i ranges)) 0 cells ∙ ap (λ l. chosen (is_covered l) 0 (visible_of cells)) e
    ∙ range_chosen range rest (visible_of cells) (subst (RangesFollow 0) e k)
    ∙ ap (λ l. take (range.to - range.from) (drop range.from (visible_of cells)) ++ l) (sym (chosen_visible (is_covered rest) 0 cells))

pub none_covered : {T : Type 0} (p : ℕ) (cells : List (Cell T)) → cells_at (is_covered []) p cells ≡ []
none_covered p [] = refl
none_covered p (c ∷ cs) = step c.gone (none_covered p cs) (none_covered (p + 1) cs)
  where
    step : (b : Bool) → cells_at (is_covered []) p cs ≡ [] → cells_at (is_covered []) (p + 1) cs ≡ [] → cond b (cells_at (is_covered []) p cs) (cells_at (is_covered []) (p + 1) cs) ≡ []
    step true h k = h
    step false h k = k

-- one place more
pub chosen_more : {T : Type 0} (cs : List (Cell T)) (from place : ℕ) (cell : Cell T) → from ≤ place → place < length cs → slice_get cs place ≡ Some cell
    → take (place + 1 - from) (drop from cs) ≡ take (place - from) (drop from cs) ++ cell ∷ []
chosen_more cs from place cell h k e =
    let next : place + 1 - from ≡ place - from + 1 = omega arith in
    let place_is : from + (place - from) ≡ place = omega arith in
    let within : place - from < length (drop from cs) = omega (arith, length-drop from cs) in
    let item : get_or (drop from cs) (place - from) cell ≡ cell = get_or-drop from cs (place - from) cell ∙ ap (λ i. get_or cs i cell) place_is ∙ get_or_from_slice_get cs place cell cell e in
    ap (λ n. take n (drop from cs)) next ∙ take_more (drop from cs) (place - from) cell within ∙ ap (λ x. take (place - from) (drop from cs) ++ x ∷ []) item
