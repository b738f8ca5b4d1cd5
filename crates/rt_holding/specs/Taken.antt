-- What becomes of a site, whatever it has besides its log, when held operations are taken.
use Rattle.std.specs.Prelude.{◌≡◌, ◌⊎◌, ℕ, List, [], ◌∷◌, length, Result, Ok, Err}
use Rattle.rt_stamps.specs.declared.fault.Fault.{Fault}
use Rattle.rt_stamps.specs.declared.fault.Fault.TheVariants.{NoMemory}
use Rattle.rt_ops.specs.Operations.{Operation}
use Rattle.rt_holding.specs.declared.held.Offered.{Offered}
use Rattle.rt_holding.specs.declared.held.Offered.TheVariants as offered
use Rattle.rt_holding.specs.Holding.{Holding, Settles, put_held, with_taken}
use Rattle.rt_holding.specs.Replies.{Reply}
use Rattle.rt_holding.specs.Replies as replies

-- what the code replies, as a reply
abbrev pub replied : Result Offered Fault → Reply
replied (Ok (offered.New more)) = replies.New
replied (Ok offered.Repeat) = replies.Repeat
replied (Ok offered.Held) = replies.Held
replied (Err fault) = replies.Refused fault

-- An operation was refused, by its reply; or where it is new or to be held memory was wanting.
abbrev pub IsRefused : Reply → Fault → Type 0
IsRefused reply fault = (reply ≡ replies.Refused fault) ⊎ ((fault ≡ NoMemory) × ((reply ≡ replies.New) ⊎ (reply ≡ replies.Held)))

-- a site's log, and the operations that are held for it
abbrev pub site_holding : {Site : Type 0} → (Site → List Operation) → Site → List Operation → Holding
site_holding log site held = record { log = log site; held = held }

-- what operations make of a site that are taken one after the other
abbrev pub all_after : {Site : Type 0} → (Operation → Site → Site) → List Operation → Site → Site
all_after after [] site = site
all_after after (op ∷ ops) site = all_after after ops (after op site)

module _ {Site : Type 0} (log : Site → List Operation) (after : Operation → Site → Site) where
  -- Held operations were tried from a state on, and so many of them taken, after which the site is what it is.
  pub record AreTried (limit : ℕ) (state : Holding) (first new : Site) (left : List Operation) (count : ℕ) : Type 0 where
    pub more : List Operation
    pub settles : Settles limit [] state (site_holding log new left) more
    pub each : new ≡ all_after after more first
    pub counted : length more ≡ count

  -- An operation was offered that wasn't refused. A new one is taken, and held ones are tried then. One that was there already
  -- changes nothing, and one that is held changes only what is held.
  abbrev pub IsOffered : ℕ → Operation → Offered → Site → List Operation → Site → List Operation → Type 0
  IsOffered limit op (offered.New more) old held new left = AreTried limit (with_taken op (site_holding log old held)) (after op old) new left more
  IsOffered limit op offered.Repeat old held new left = (new ≡ old) × (left ≡ held)
  IsOffered limit op offered.Held old held new left = (new ≡ old) × (left ≡ put_held op held)

-- those that are held after one that came too early
abbrev pub held_after : Offered → Operation → List Operation → List Operation
held_after (offered.New more) op held = held
held_after offered.Repeat op held = held
held_after offered.Held op held = put_held op held
