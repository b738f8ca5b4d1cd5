use Rattle.rt_stamps.specs.declared.fault.Fault.{Fault}
-- What a command answers for its indices.
use Rattle.std.proofs.Common.{◌≡◌, ℕ, [], ◌∷◌, ◌∙◌, ap, Ok, inl, inr}
use Rattle.std.specs.Result.{result_err, result_unwrap_or}
use Rattle.rt_index.specs.Index.{index_of}
use Rattle.rt_index.specs.Widget.{IndexedWidget}
use Rattle.rt_stamps.specs.Outcomes.{first_of, unless, Refuses}
use Rattle.rt_stamps.specs.Words.{Word}
use Rattle.rt_text.specs.Index.{index_check, place_at_index}

-- ONE INDEX

pub one_given : {T : Type 0} (w : IndexedWidget) (word : Word) (give : ℕ → T) (place : ℕ) → index_of w word ≡ Ok place
    → unless (index_check w word) (give (place_at_index w word)) ≡ Ok (give place)
one_given w word give place e = ap (λ r. unless (result_err r) (give (result_unwrap_or r 0))) e

-- TWO INDICES

pub two_given : {T : Type 0} (w : IndexedWidget) (first second : Word) (give : ℕ → ℕ → T) (a b : ℕ) → index_of w first ≡ Ok a → index_of w second ≡ Ok b
    → unless (first_of (index_check w first ∷ index_check w second ∷ [])) (give (place_at_index w first) (place_at_index w second)) ≡ Ok (give a b)
two_given w first second give a b e f =
    ap (λ r. unless (first_of (result_err r ∷ index_check w second ∷ [])) (give (result_unwrap_or r 0) (place_at_index w second))) e
    ∙ ap (λ r. unless (first_of (result_err r ∷ [])) (give a (result_unwrap_or r 0))) f

-- REFUSALS

pub one_refused : {T : Type 0} (w : IndexedWidget) (word : Word) (give : ℕ → T) (fault : Fault) → Refuses (index_of w word) fault → Refuses (unless (index_check w word) (give (place_at_index w word))) fault
one_refused w word give fault (inl e) = inl e
one_refused w word give fault (inr e) = inr (ap (λ r. unless (result_err r) (give (result_unwrap_or r 0))) e)

pub first_refused : {T : Type 0} (w : IndexedWidget) (first second : Word) (give : ℕ → ℕ → T) (fault : Fault) → Refuses (index_of w first) fault
    → Refuses (unless (first_of (index_check w first ∷ index_check w second ∷ [])) (give (place_at_index w first) (place_at_index w second))) fault
first_refused w first second give fault (inl e) = inl e
first_refused w first second give fault (inr e) =
    inr (ap (λ r. unless (first_of (result_err r ∷ index_check w second ∷ [])) (give (result_unwrap_or r 0) (place_at_index w second))) e)

pub second_refused : {T : Type 0} (w : IndexedWidget) (first second : Word) (give : ℕ → ℕ → T) (a : ℕ) (fault : Fault) → index_of w first ≡ Ok a → Refuses (index_of w second) fault
    → Refuses (unless (first_of (index_check w first ∷ index_check w second ∷ [])) (give (place_at_index w first) (place_at_index w second))) fault
second_refused w first second give a fault f (inl e) = inl e
second_refused w first second give a fault f (inr e) =
    inr (ap (λ r. unless (first_of (result_err r ∷ index_check w second ∷ [])) (give (result_unwrap_or r 0) (place_at_index w second))) f
    ∙ ap (λ r. unless (first_of (result_err r ∷ [])) (give a (result_unwrap_or r 0))) e)
