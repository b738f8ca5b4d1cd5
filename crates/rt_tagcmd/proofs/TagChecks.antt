-- Checks that come one after the other.
use Rattle.std.proofs.Common.{◌≡◌, ◌⊎◌, inl, inr, List, [], ◌∷◌, ◌++◌, ap, ◌∙◌, Option, Some, None, Ok}
use Rattle.rt_stamps.specs.declared.fault.Fault.{Fault}
use Rattle.rt_stamps.specs.declared.fault.Fault.TheVariants.{NoMemory}
use Rattle.rt_stamps.specs.Outcomes.{Refuses, first_of, unless}

-- CHECKS IN TURN

pub both_none : (xs ys : List (Option Fault)) → first_of xs ≡ None → first_of ys ≡ None → first_of (xs ++ ys) ≡ None
both_none [] ys h k = k
both_none (None ∷ xs) ys h k = both_none xs ys h k
both_none (Some f ∷ xs) ys h k = h

pub first_some : (xs ys : List (Option Fault)) (fault : Fault) → first_of xs ≡ Some fault → first_of (xs ++ ys) ≡ Some fault
first_some [] ys fault h = let bad : ⊥ = cc in absurd bad
first_some (None ∷ xs) ys fault h = first_some xs ys fault h
first_some (Some f ∷ xs) ys fault h = h

pub second_some : (xs ys : List (Option Fault)) (fault : Fault) → first_of xs ≡ None → first_of ys ≡ Some fault → first_of (xs ++ ys) ≡ Some fault
second_some [] ys fault h k = k
second_some (None ∷ xs) ys fault h k = second_some xs ys fault h k
second_some (Some f ∷ xs) ys fault h k = let bad : ⊥ = cc in absurd bad

alone : (o r : Option Fault) → o ≡ r → first_of (o ∷ []) ≡ r
alone None r h = h
alone (Some f) r h = h

-- a value is given where no check finds a fault
pub given : {T : Type 0} (xs : List (Option Fault)) (last : Option Fault) (value other : T) → first_of xs ≡ None → last ≡ None → value ≡ other → unless (first_of (xs ++ last ∷ [])) value ≡ Ok other
given xs last value other h k e = ap (λ o. unless o value) (both_none xs (last ∷ []) h (alone last None k)) ∙ ap (λ v. Ok v) e

-- and it is refused where one does
pub refused_first : {T : Type 0} (xs ys : List (Option Fault)) (value : T) (fault : Fault) → (fault ≡ NoMemory) ⊎ (first_of xs ≡ Some fault) → Refuses (unless (first_of (xs ++ ys)) value) fault
refused_first xs ys value fault (inl e) = inl e
refused_first xs ys value fault (inr e) = inr (ap (λ o. unless o value) (first_some xs ys fault e))

pub refused_last : {T : Type 0} (xs : List (Option Fault)) (last : Option Fault) (value : T) (fault : Fault) → first_of xs ≡ None → (fault ≡ NoMemory) ⊎ (last ≡ Some fault) → Refuses (unless (first_of (xs ++ last ∷ [])) value) fault
refused_last xs last value fault h (inl e) = inl e
refused_last xs last value fault h (inr e) = inr (ap (λ o. unless o value) (second_some xs (last ∷ []) fault h (alone last (Some fault) e)))

-- a check that finds nothing is passed over
pub passed : (o : Option Fault) (xs : List (Option Fault)) (r : Option Fault) → o ≡ None → first_of xs ≡ r → first_of (o ∷ xs) ≡ r
passed o xs r h k = ap (λ v. first_of (v ∷ xs)) h ∙ k

pub passed_fault : (o : Option Fault) (xs : List (Option Fault)) (fault : Fault) → o ≡ None → (fault ≡ NoMemory) ⊎ (first_of xs ≡ Some fault) → (fault ≡ NoMemory) ⊎ (first_of (o ∷ xs) ≡ Some fault)
passed_fault o xs fault h (inl e) = inl e
passed_fault o xs fault h (inr e) = inr (passed o xs (Some fault) h e)
