-- A site that receives a file, seen as another; and which operations it takes.
use Rattle.std.specs.Prelude.{◌≡◌, ℕ, List}
use Rattle.rt_ops.specs.Operations.{Operation}
use Rattle.rt_holding.specs.declared.receiving.Received.{Received}
use Rattle.rt_holding.specs.Memory.{TakesNew}
use Rattle.rt_holding.specs.Receiving.{Receives, State}
use Rattle.rt_holding.specs.Runs.{AreTakenInTurn}
use Rattle.rt_holding.specs.Taken.{all_after}

-- a site with what is held for it, the site seen as another
abbrev pub seen_as : {Site Seen : Type 0} → (Site → Seen) → State Site → State Seen
seen_as see s = record { site = see s.site; held = s.held }

-- Each site is seen as another, which takes operations as it does. Then the other receives a file as it does.
abbrev pub FilesAreSeen : {Site Seen : Type 0} (see : Site → Seen) (log : Seen → List Operation) (limit : Seen → ℕ)
    (after : Operation → Site → Site) (seen_after : Operation → Seen → Seen) → Type 0
FilesAreSeen {Site} see log limit after seen_after =
    ((op : Operation) (site : Site) → see (after op site) ≡ seen_after op (see site))
    → (bytes : List ℕ) (old : State Site) (received : Received) (new : State Site)
    → Receives (λ site. log (see site)) (λ site. limit (see site)) after bytes old received new
    → Receives log limit seen_after bytes (seen_as see old) received (seen_as see new)

module _ {Site : Type 0} (log : Site → List Operation) (limit : Site → ℕ) (after : Operation → Site → Site) where
  -- A site became another by taking operations one after the other, each of which was new to it then.
  pub record BecameByTaking (old new : Site) : Type 0 where
    pub ops : List Operation
    pub turn : AreTakenInTurn (limit old) (log old) ops
    pub each : new ≡ all_after after ops old

  -- A site that puts what is new to it into its log when it takes it, and keeps its limit, takes some operations in turn when it
  -- receives a file, and nothing else becomes of it.
  abbrev pub FilesAreTaken : Type 0
  FilesAreTaken =
      TakesNew log limit after
      → (bytes : List ℕ) (old : State Site) (received : Received) (new : State Site) → Receives log limit after bytes old received new
      → BecameByTaking old.site new.site
