-- Whole runs of a site that holds early operations, and what it then has accepted.
use Rattle.std.specs.Prelude.{◌≡◌, ◌⊎◌, ℕ, ◌≤◌, Bool, true, false, List, [], ◌∷◌, ◌++◌, length, if◌then◌else◌}
use Rattle.rt_stamps.specs.declared.fault.Fault.TheVariants.{TextFull, WaitingFull}
use Rattle.std.specs.List.{AllByRecursion}
use Rattle.rt_stamps.specs.Stamps.{is_before}
use Rattle.rt_ops.specs.Operations.{Operation, stamp_of}
use Rattle.rt_ops.specs.Rules.{keeps_rules}
use Rattle.rt_oplog.specs.Logs.{AreOf, HasOp, clash, holds, with_operation}
use Rattle.rt_rga.specs.Answers.{New, answer_within}
use Rattle.rt_rga.specs.Cells.{cells_of}
use Rattle.rt_rga.specs.Drafts.{operations_of, with_drafts}
use Rattle.rt_rga.specs.Histories.{IsHistory}
use Rattle.rt_rga.specs.Orders.{AreIn}
use Rattle.rt_rga.specs.Requests.{MayBeAsked, Make, Offer, ReplicaRequest, fit}
use Rattle.rt_holding.specs.declared.held.TheConstants.{MOST_HELD}
use Rattle.rt_holding.specs.Holding.{Holding, Settles, after_answer, has_no_room, is_new, reply_to, settled, stays, waits}
use Rattle.rt_holding.specs.Replies.{Reply}
use Rattle.rt_holding.specs.Replies as replies

-- ONE REQUEST

-- a request accepts operations: the one that is offered, where it is answered New, or drafts that fit (also none)
abbrev pub accepts : ℕ → ℕ → ReplicaRequest → Holding → Bool
accepts site limit (Offer op) s = is_new (answer_within limit op s.log)
accepts site limit (Make drafts) s = fit site limit drafts s.log

-- the state before held operations are tried
abbrev pub before_tries : ℕ → ℕ → ReplicaRequest → Holding → Holding
before_tries site limit (Offer op) s = after_answer (answer_within limit op s.log) op s
before_tries site limit (Make drafts) s = if fit site limit drafts s.log then record { log = with_drafts site drafts s.log; held = s.held } else s

-- with ample memory
abbrev pub holding_after_request : ℕ → ℕ → ReplicaRequest → Holding → Holding
holding_after_request site limit request s = if accepts site limit request s then settled limit (before_tries site limit request s) else before_tries site limit request s

abbrev pub holding_after_requests : ℕ → ℕ → List ReplicaRequest → Holding → Holding
holding_after_requests site limit [] s = s
holding_after_requests site limit (request ∷ requests) s = holding_after_requests site limit requests (holding_after_request site limit request s)

-- Where tries may find no memory: one state leads to another, in which some held ones are taken.
abbrev pub Leads : ℕ → ℕ → ReplicaRequest → Holding → Holding → List Operation → Type 0
Leads site limit request s t more =
    ((accepts site limit request s ≡ true) × Settles limit [] (before_tries site limit request s) t more)
    ⊎ ((accepts site limit request s ≡ false) × (t ≡ before_tries site limit request s) × (more ≡ []))

-- WHAT REQUESTS BRING

-- an offered operation is refused for want of room: of its cells, or among the held ones
abbrev pub finds_no_room : Reply → Bool
finds_no_room replies.New = false
finds_no_room replies.Repeat = false
finds_no_room replies.Held = false
finds_no_room (replies.Refused TextFull) = true
finds_no_room (replies.Refused WaitingFull) = true
finds_no_room (replies.Refused _) = false

-- the operations that a request brings: the offered one, unless it is refused for want of room; those that are made
abbrev pub brought_by : ℕ → ℕ → ReplicaRequest → Holding → List Operation
brought_by site limit (Offer op) s = if finds_no_room (reply_to limit op s) then [] else op ∷ []
brought_by site limit (Make drafts) s = if fit site limit drafts s.log then operations_of site drafts s.log else []

-- Requests lead from one state to another, and bring operations. One that was refused for want of memory is as one that
-- wasn't made.
pub data Runs (site limit : ℕ) : List ReplicaRequest → Holding → Holding → List Operation → Type 0 where
  none : {s : Holding} → Runs site limit [] s s []
  next : {request : ReplicaRequest} {requests : List ReplicaRequest} {s t u : Holding} {ops : List Operation} (more : List Operation)
      → MayBeAsked site s.log request → Leads site limit request s t more → Runs site limit requests t u ops
      → Runs site limit (request ∷ requests) s u (brought_by site limit request s ++ ops)

-- WHAT IS ACCEPTED

-- no two of some operations clash
abbrev pub AreFree : List Operation → Type 0
AreFree ops = (p q : Operation) → HasOp ops p → HasOp ops q → clash p q ≡ false

-- a history of some operations that has each other history of them
pub record IsGreatestHistoryWithin (ops set : List Operation) : Type 0 where
  pub history : IsHistory set
  pub within : AreIn set ops
  pub greatest : (other : List Operation) → IsHistory other → AreIn other ops → AreIn other set

-- no held operation could be taken, if there were memory and room
abbrev pub NoneCouldBeTaken : ℕ → Holding → Type 0
NoneCouldBeTaken limit s =
    (op : Operation) → HasOp s.held op
    → (is_new (answer_within limit op s.log) ≡ false) × (has_no_room (answer_within limit op s.log) ≡ false)

-- WHAT A SITE KEEPS TO

-- none is there twice
abbrev pub NoneTwice : List Operation → Type 0
NoneTwice [] = Unit {0}
NoneTwice (op ∷ ops) = (holds ops op ≡ false) × NoneTwice ops

-- none has a lesser stamp than one before it
abbrev pub NoneFalls : List Operation → Type 0
NoneFalls [] = Unit {0}
NoneFalls (op ∷ ops) = AllByRecursion (λ later. is_before (stamp_of later) (stamp_of op) ≡ false) ops × NoneFalls ops

-- The accepted ones are a history within the limit of cells. The held ones are no more than may be, by rising stamp, none is there
-- twice, and each waits: it comes too early, or finds no room, or found no memory.
pub record IsHolding (limit : ℕ) (s : Holding) : Type 0 where
  pub history : IsHistory s.log
  pub room : length (cells_of s.log) ≤ limit
  pub few : length s.held ≤ MOST_HELD
  pub once : NoneTwice s.held
  pub order : NoneFalls s.held
  pub rules : (op : Operation) → HasOp s.held op → keeps_rules op.body ≡ true
  pub waiting : (op : Operation) → HasOp s.held op → waits (answer_within limit op s.log) ≡ true

-- each operation continues a log with those before it, within the limit of cells
abbrev pub AreTakenInTurn : ℕ → List Operation → List Operation → Type 0
AreTakenInTurn limit log [] = Unit {0}
AreTakenInTurn limit log (op ∷ ops) = (answer_within limit op log ≡ New) × AreTakenInTurn limit (with_operation op log) ops

-- WITH AMPLE MEMORY

-- what requests bring, one after the other
abbrev pub brought : ℕ → ℕ → List ReplicaRequest → Holding → List Operation
brought site limit [] s = []
brought site limit (request ∷ requests) s = brought_by site limit request s ++ brought site limit requests (holding_after_request site limit request s)

abbrev pub HoldingMayBeAsked : ℕ → ℕ → List ReplicaRequest → Holding → Type 0
HoldingMayBeAsked site limit [] s = Unit {0}
HoldingMayBeAsked site limit (request ∷ requests) s = MayBeAsked site s.log request × HoldingMayBeAsked site limit requests (holding_after_request site limit request s)

-- each held one comes too early or finds no room
abbrev pub AllStay : ℕ → Holding → Type 0
AllStay limit s = (op : Operation) → HasOp s.held op → stays (answer_within limit op s.log) ≡ true
