-- Sites that receive each other's logs, or of these what they lack.
use Rattle.std.specs.Prelude.{◌≡◌, ◌≢◌, ◌≤◌, ◌⊎◌, ℕ, false, List, [], reverse, None, Ok, Err, IfSome}
use Rattle.rt_stamps.specs.declared.fault.Fault.{Fault}
use Rattle.rt_stamps.specs.declared.fault.Fault.TheVariants.{Conflict, NoMemory, TextFull}
use Rattle.rt_ops.specs.Operations.{Operation}
use Rattle.rt_ops.specs.Reading.{Reads}
use Rattle.rt_oplog.specs.Logs.{HasClashOf, HasOp, clash, joined, known_end}
use Rattle.rt_holding.specs.declared.receiving.Received.{Received}
use Rattle.rt_peers.specs.Lacking.{past_known}
use Rattle.rt_peers.specs.SiteStep.{SiteReceives, log_of}
use Rattle.rt_peers.specs.SiteValue.{SiteValue}

-- bytes read as the operations of a log, as those of its file do
abbrev pub IsFileOf : List ℕ → List Operation → Type 0
IsFileOf bytes log = (offsets : List ℕ) × Reads bytes (reverse log) offsets None

-- no operation of one log clashes with one of the other
abbrev pub HaveNoClash : List Operation → List Operation → Type 0
HaveNoClash one other = (p q : Operation) → HasOp one p → HasOp other q → clash p q ≡ false

-- what is told of a file comes to the join of two logs, with nothing held, or a fault was told; and no other than want of memory or of
-- room is
abbrev pub ComesToJoin : SiteValue → List Operation → Received → SiteValue → Type 0
ComesToJoin one log received new =
    (received.fault ≡ None → (joined (log_of one) log ≡ Ok (log_of new)) × (new.held ≡ []))
    × IfSome received.fault (λ found. (found.0 ≡ NoMemory) ⊎ (found.0 ≡ TextFull))

-- A site that holds nothing receives the whole log of another, with which it has no clash.
abbrev pub ReceivesWhole : SiteValue → List Operation → Type 0
ReceivesWhole one log =
    (bytes : List ℕ) (received : Received) (new : SiteValue) → IsFileOf bytes log → HaveNoClash (log_of one) log → one.held ≡ []
    → SiteReceives bytes one received new → ComesToJoin one log received new

-- the counts of a log reach those that are known
abbrev pub CoversKnown : List Operation → (ℕ → ℕ) → Type 0
CoversKnown log known = (site : ℕ) → known site ≤ known_end log site

-- It receives of that log only what is past some counts, up to which it knows the operations of each site.
abbrev pub ReceivesLacking : SiteValue → List Operation → Type 0
ReceivesLacking one log =
    (known : ℕ → ℕ) (bytes : List ℕ) (received : Received) (new : SiteValue) → CoversKnown (log_of one) known
    → IsFileOf bytes (past_known known log) → HaveNoClash (log_of one) log → one.held ≡ []
    → SiteReceives bytes one received new → ComesToJoin one log received new

-- Two such sites receive each other's logs, and no fault is told: then both have one log.
abbrev pub ExchangeAgrees : SiteValue → SiteValue → Type 0
ExchangeAgrees one other =
    (file_one file_other : List ℕ) (received_one received_other : Received) (new_one new_other : SiteValue)
    → IsFileOf file_one (log_of one) → IsFileOf file_other (log_of other) → HaveNoClash (log_of one) (log_of other) → one.held ≡ [] → other.held ≡ []
    → SiteReceives file_other one received_one new_one → SiteReceives file_one other received_other new_other
    → received_one.fault ≡ None → received_other.fault ≡ None → log_of new_one ≡ log_of new_other

-- WHETHER OR NOT OPERATIONS CLASH

-- a fault is want of memory or of room, or it is a Conflict, and so is the join of two logs
abbrev pub IsWantOrConflict : List Operation → List Operation → Fault → Type 0
IsWantOrConflict one log fault = (fault ≡ NoMemory) ⊎ ((fault ≡ TextFull) ⊎ ((fault ≡ Conflict) × (joined one log ≡ Err Conflict)))

-- A site that holds nothing receives the whole log of another, whatever clashes. Where no fault is told it comes to the join of both
-- logs, with nothing held; and where one is told, it is want of memory or of room, or a Conflict of the join.
abbrev pub ReceivesAny : SiteValue → List Operation → Type 0
ReceivesAny one log =
    (bytes : List ℕ) (received : Received) (new : SiteValue) → IsFileOf bytes log → one.held ≡ [] → SiteReceives bytes one received new
    → (received.fault ≡ None → (joined (log_of one) log ≡ Ok (log_of new)) × (new.held ≡ []))
    × IfSome received.fault (λ found. IsWantOrConflict (log_of one) log found.0)

-- where two operations of both logs clash, a fault is told
abbrev pub TellsClash : SiteValue → List Operation → Type 0
TellsClash one log =
    (bytes : List ℕ) (received : Received) (new : SiteValue) → IsFileOf bytes log → one.held ≡ [] → HasClashOf (log_of one) log
    → SiteReceives bytes one received new → received.fault ≢ None

-- TWO SITES AFTERWARDS

-- a site that holds nothing receives a file, is told no fault, and is left as another state
abbrev pub ReceivesAll : List ℕ → SiteValue → SiteValue → Type 0
ReceivesAll bytes old new = (old.held ≡ []) × (received : Received) × SiteReceives bytes old received new × (received.fault ≡ None)

-- two sites that receive each other's whole logs, with no fault told, show the same
abbrev pub AgreeOnceExchanged : {Shown : Type 0} → (SiteValue → Shown) → SiteValue → SiteValue → SiteValue → SiteValue → Type 0
AgreeOnceExchanged shown one other left_one left_other =
    (file_one file_other : List ℕ) → IsFileOf file_one (log_of one) → IsFileOf file_other (log_of other)
    → ReceivesAll file_other one left_one → ReceivesAll file_one other left_other → shown left_one ≡ shown left_other

-- so do two that have no clash and receive of each other's log what is past counts up to which they know the operations of
-- each site
abbrev pub AgreeOnceCaughtUp : {Shown : Type 0} → (SiteValue → Shown) → SiteValue → SiteValue → SiteValue → SiteValue → Type 0
AgreeOnceCaughtUp shown one other left_one left_other =
    (known_one known_other : ℕ → ℕ) (file_one file_other : List ℕ) → CoversKnown (log_of one) known_one → CoversKnown (log_of other) known_other
    → HaveNoClash (log_of one) (log_of other)
    → IsFileOf file_one (past_known known_other (log_of one)) → IsFileOf file_other (past_known known_one (log_of other))
    → ReceivesAll file_other one left_one → ReceivesAll file_one other left_other → shown left_one ≡ shown left_other
