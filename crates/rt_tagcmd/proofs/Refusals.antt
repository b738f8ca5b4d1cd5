-- Checks that come one after the other.
use Rattle.std.proofs.Common.{◌≡◌, ◌⊎◌, inl, inr, List, [], ◌∷◌, ◌++◌, Option, Some, None, refl}
use Rattle.rt_stamps.specs.declared.fault.Fault.{Fault}
use Rattle.rt_stamps.specs.declared.fault.Fault.TheVariants.{NoMemory}
use Rattle.rt_stamps.specs.Outcomes.{Refuses, first_of, unless}

-- what some checks find is found by these and more
found_first : (checks more : List (Option Fault)) (fault : Fault) → first_of checks ≡ Some fault → first_of (checks ++ more) ≡ Some fault
found_first [] more fault h = absurd (cc)
found_first (Some found ∷ checks) more fault h = h
found_first (None ∷ checks) more fault h = found_first checks more fault h

-- a refusal by checks behind one that finds nothing
pub refused_behind : {T : Type 0} (first : Option Fault) (checks more : List (Option Fault)) (value : T) (fault : Fault) → first ≡ None
    → (fault ≡ NoMemory) ⊎ (first_of checks ≡ Some fault) → Refuses (unless (first_of (first ∷ checks ++ more)) value) fault
refused_behind first checks more value fault h (inl e) = inl e
refused_behind first checks more value fault h (inr e) = inr (rw (h, found_first checks more fault e) refl)
