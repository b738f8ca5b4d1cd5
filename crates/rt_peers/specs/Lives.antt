-- What becomes of the operations of a site from its beginning on, call by call, and which of them came to it.
use Rattle.std.specs.Prelude.{◌≡◌, ◌⊎◌, ℕ, ◌<◌, List, [], ◌++◌}
use Rattle.rt_ops.specs.Operations.{Operation}
use Rattle.rt_ops.specs.Reading.{IsBegun}
use Rattle.rt_oplog.specs.Logs.{AreOf, HasOp}
use Rattle.rt_rga.specs.Drafts.{operations_of}
use Rattle.rt_rga.specs.Histories.{IsHistory}
use Rattle.rt_recording.specs.Edits.{text_with_new}
use Rattle.rt_holding.specs.declared.receiving.Received.{Received}
use Rattle.rt_holding.specs.Came.{came_with}
use Rattle.rt_holding.specs.Runs.{AreFree, IsGreatestHistoryWithin, IsHolding, NoneCouldBeTaken}
use Rattle.rt_peers.specs.SiteStep.{KeepsOperations, MakesAndTries, SiteReceives, cell_limit, log_of, site_of, text_limit, text_log}
use Rattle.rt_peers.specs.SiteValue.{SiteValue, holding_of_site, new_site}

-- the operations that a site made for a call
abbrev pub made_by : {old mid new : SiteValue} → MakesAndTries old mid new → List Operation
made_by {old} h = operations_of (site_of old) h.drafts (log_of old)

-- the operations that came to it with a file: those that it was offered, unless memory, cells or a place among the held ones wanted
abbrev pub came_to : (bytes : List ℕ) (old : SiteValue) (received : Received) (new : SiteValue) → SiteReceives bytes old received new → List Operation
came_to bytes old received new h =
    came_with text_log text_limit text_with_new bytes (record { site = old.text; held = old.held }) received
    (record { site = new.text; held = new.held }) h.text

-- The operations of a site of a number, that may have so many cells, have become those of a state, call by call: one call accepts
-- nothing; one makes operations of the site's own, and then those that it holds are tried; one receives a file. The list has the
-- operations that came to it, its own among them. Of the cells `SiteState::log` speaks.
pub data Lives (site limit : ℕ) : SiteValue → List Operation → Type 0 where
  begins : 0 < site → 0 < limit → Lives site limit (new_site site limit) []
  keeps : {old new : SiteValue} {came : List Operation} → Lives site limit old came → KeepsOperations old new → Lives site limit new came
  makes : {old mid new : SiteValue} {came : List Operation} → Lives site limit old came → (h : MakesAndTries old mid new)
      → Lives site limit new (came ++ made_by h)
  receives : {old new : SiteValue} {came : List Operation} (bytes : List ℕ) (received : Received) → Lives site limit old came
      → (h : SiteReceives bytes old received new) → Lives site limit new (came ++ came_to bytes old received new h)

-- What a call does that receives no file: it accepts nothing, or makes operations of the site's own.
abbrev pub KeepsOrMakes : SiteValue → SiteValue → Type 0
KeepsOrMakes old new = KeepsOperations old new ⊎ ((mid : SiteValue) × MakesAndTries old mid new)

-- an operation is one of those with whose records the bytes of a file begin
abbrev pub IsOfFile : List ℕ → Operation → Type 0
IsOfFile bytes op = (ops : List Operation) × IsBegun bytes ops × HasOp ops op

-- Some calls lead from one state to another. What came to the site with them are operations of its own number, and others, of which
-- something is known.
abbrev pub LivesOn : (Operation → Type 0) → SiteValue → SiteValue → Type 0
LivesOn IsOther old new =
    (site limit : ℕ) (came : List Operation) → Lives site limit old came
    → (more : List Operation) × Lives site limit new (came ++ more) × ((op : Operation) → HasOp more op → (op.site ≡ site) ⊎ IsOther op)

-- none of the operations that it holds could be taken, if there were memory and room: so it is where it holds none
abbrev pub IsAtRest : SiteValue → Type 0
IsAtRest state = NoneCouldBeTaken (cell_limit state) (holding_of_site state)

-- In whatever order operations come to two sites, in whatever files and with repeats, and whatever they make between: where the same
-- came to both, no two of which clash, and both are at rest, they show the same.
abbrev pub AgreeInAnyOrder : {Shown : Type 0} → (SiteValue → Shown) → SiteValue → SiteValue → Type 0
AgreeInAnyOrder shown one other =
    (site_one site_other limit_one limit_other : ℕ) (came_one came_other : List Operation)
    → Lives site_one limit_one one came_one → Lives site_other limit_other other came_other
    → AreOf came_one came_other → AreFree came_one → IsAtRest one → IsAtRest other → shown one ≡ shown other

-- WHAT A SITE HAS ACCEPTED

-- the greatest history within what came to it
abbrev pub AcceptsGreatest : Type 0
AcceptsGreatest =
    (site limit : ℕ) (state : SiteValue) (came : List Operation) → Lives site limit state came → AreFree came → IsAtRest state
    → IsGreatestHistoryWithin came (log_of state)

-- and where a history came to it, just that, with none held
abbrev pub AcceptsHistory : Type 0
AcceptsHistory =
    (site limit : ℕ) (state : SiteValue) (came set : List Operation) → Lives site limit state came → IsHistory set → AreOf came set → IsAtRest state
    → (log_of state ≡ set) × (state.held ≡ [])

-- what a site that holds operations keeps to
abbrev pub SitesHold : Type 0
SitesHold =
    (site limit : ℕ) (state : SiteValue) (came : List Operation) → Lives site limit state came → IsHolding limit (holding_of_site state)
