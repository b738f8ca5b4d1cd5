-- What a call answers: what it is to give, or a refusal.
use Rattle.std.specs.Prelude.{◌≡◌, ◌⊎◌, List, [], ◌∷◌, Option, Some, None, Result, Ok, Err, MatchResult}
use Rattle.rt_stamps.specs.declared.fault.Fault.{Fault}
use Rattle.rt_stamps.specs.declared.fault.Fault.TheVariants.{NoMemory}

-- the first check of a list that finds a fault
abbrev pub first_of : List (Option Fault) → Option Fault
first_of [] = None
first_of (Some fault ∷ checks) = Some fault
first_of (None ∷ checks) = first_of checks

-- a value, where no check finds a fault
abbrev pub unless : {T : Type 0} → Option Fault → T → Result T Fault
unless (Some fault) value = Err fault
unless None value = Ok value

-- a call is refused as its outcome is, or for want of memory
abbrev pub Refuses : {T : Type 0} → Result T Fault → Fault → Type 0
Refuses outcome fault = (fault ≡ NoMemory) ⊎ (outcome ≡ Err fault)

-- A call whose outcome is a reply and the state after it: on Ok it answers that reply and leaves that state; on Err it is
-- refused as the outcome is or for want of memory, and leaves the state as it was.
abbrev pub Answers : {R S : Type 0} → Result (R × S) Fault → S → Result R Fault → S → Type 0
Answers outcome old result new = MatchResult result
    (λ reply. outcome ≡ Ok (reply, new))
    (λ fault. (new ≡ old) × Refuses outcome fault)
