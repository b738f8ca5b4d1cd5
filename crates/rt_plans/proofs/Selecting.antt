-- Selections without the characters of another one.
use Rattle.std.proofs.Common.{◌≡◌, ◌==◌, ℕ, suc, arith, length, List, [], ◌∷◌, ◌++◌, Bool, true, false, cond, not, ◌||◌, filter, refl, sym, ◌∙◌, ap}
use Rattle.std.proofs.lemmas.Bool.Decides.{nat_tests}
use Rattle.std.proofs.lemmas.List.Folds.{list_any-append}
use Rattle.rt_stamps.specs.declared.stamp.Stamp.{Stamp}
use Rattle.rt_stamps.specs.Stamps.{is_same}
use Rattle.rt_stamps.proofs.Order.{same_from_true, same_sym}
use Rattle.rt_plans.specs.Selections.{with_stamp, with_stamps, unselected}
use Rattle.rt_store.specs.Spans.{is_among}
use Rattle.rt_store.proofs.Distinct.{split}

or_none : (a : Bool) → (a || false) ≡ a
or_none true = refl
or_none false = refl

or_same : (a b : Bool) → (b ≡ true → a ≡ true) → a ≡ (a || b)
or_same true b h = refl
or_same false true h = h refl
or_same false false h = refl

or_assoc : (a b c : Bool) → ((a || b) || c) ≡ (a || (b || c))
or_assoc true b c = refl
or_assoc false b c = refl

among_one : (x : Stamp) (selection : List Stamp) (s : Stamp) → is_among (with_stamp x selection) s ≡ (is_among selection s || is_same x s)
among_one x selection s =
    split (is_among selection x)
    (λ t. ap (λ b. is_among (cond b selection (selection ++ x ∷ [])) s) t ∙ or_same (is_among selection s) (is_same x s) (λ e. ap (is_among selection) (sym (same_from_true x s e)) ∙ t))
    (λ f. ap (λ b. is_among (cond b selection (selection ++ x ∷ [])) s) f ∙ list_any-append (λ other. is_same other s) selection (x ∷ []) ∙ ap (λ b. is_among selection s || b) (or_none (is_same x s)))

among_with : (stamps selection : List Stamp) (s : Stamp) → is_among (with_stamps stamps selection) s ≡ (is_among selection s || is_among stamps s)
among_with [] selection s = sym (or_none (is_among selection s))
among_with (x ∷ stamps) selection s =
    among_with stamps (with_stamp x selection) s ∙ ap (λ b. b || is_among stamps s) (among_one x selection s) ∙ or_assoc (is_among selection s) (is_same x s) (is_among stamps s)

-- a selection without the characters of another is one without those that it was made of
pub unselected_alike : (stamps selection : List Stamp) → unselected (with_stamps stamps []) selection ≡ unselected stamps selection
unselected_alike stamps selection = λ i. filter (λ s. not (among_with stamps [] s i)) selection

-- WHAT TAKES NOTHING OUT

of_none : (selection : List Stamp) → unselected [] selection ≡ selection
of_none [] = refl
of_none (s ∷ selection) = ap (λ l. s ∷ l) (of_none selection)

never_empty : (n : ℕ) → (suc n == 0) ≡ false
never_empty n = grind (arith, nat_tests)

pub unselected_none : (stamps selection : List Stamp) → (length stamps == 0) ≡ true → unselected stamps selection ≡ selection
unselected_none [] selection h = of_none selection
unselected_none (x ∷ stamps) selection h = let both : true ≡ false = sym h ∙ never_empty (length stamps) in cc

none_here : (a b : Bool) → (a || b) ≡ false → a ≡ false
none_here true b e = e
none_here false b e = refl

none_there : (a b : Bool) → (a || b) ≡ false → b ≡ false
none_there true b e = cc
none_there false b e = e

pub unselected_other : (stamp : Stamp) (selection : List Stamp) → is_among selection stamp ≡ false → unselected (stamp ∷ []) selection ≡ selection
unselected_other stamp [] h = refl
unselected_other stamp (s ∷ selection) h =
    let apart : is_same stamp s ≡ false = same_sym stamp s ∙ none_here (is_same s stamp) (is_among selection stamp) h in
    ap (λ b. cond (not (b || false)) (s ∷ unselected (stamp ∷ []) selection) (unselected (stamp ∷ []) selection)) apart
    ∙ ap (λ l. s ∷ l) (unselected_other stamp selection (none_there (is_same s stamp) (is_among selection stamp) h))
