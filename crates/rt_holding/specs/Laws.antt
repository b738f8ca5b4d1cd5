-- The laws of held operations, as statements.
use Rattle.std.specs.Prelude.{◌≡◌, ℕ, ◌<◌, true, false, List, [], None}
use Rattle.rt_ops.specs.Operations.{Operation}
use Rattle.rt_ops.specs.Rules.{keeps_rules}
use Rattle.rt_oplog.specs.Logs.{AreOf, HasOp, with_operation}
use Rattle.rt_rga.specs.Answers.{New, Refused, answer_within}
use Rattle.rt_rga.specs.Drafts.{all_changed, with_operations}
use Rattle.rt_stamps.specs.declared.fault.Fault.{Fault}
use Rattle.rt_stamps.specs.declared.fault.Fault.TheVariants.{TextFull}
use Rattle.rt_rga.specs.Cells.{cells_of}
use Rattle.rt_rga.specs.Histories.{IsHistory}
use Rattle.rt_rga.specs.Requests.{MayBeAsked, Offer, ReplicaRequest}
use Rattle.rt_holding.specs.Replies as replies
use Rattle.rt_holding.specs.Holding.{Holding, Settles, has_no_room, next_held, new_holding, reply_to, settled, taken_then}
use Rattle.rt_holding.specs.Runs.{HoldingMayBeAsked, AllStay, AreFree, AreTakenInTurn, IsGreatestHistoryWithin, IsHolding, Leads, NoneCouldBeTaken, Runs, holding_after_requests, brought}

-- In whatever order operations come, and whichever tries found no memory: if no two clash, and in the end none is held that
-- could be taken, the greatest history within them is accepted.
abbrev pub GreatestIsAccepted : Type 0
GreatestIsAccepted =
    (site limit : ℕ) (requests : List ReplicaRequest) (ops : List Operation) (end : Holding) → 0 < site
    → Runs site limit requests new_holding end ops → AreFree ops → NoneCouldBeTaken limit end
    → IsGreatestHistoryWithin ops end.log

-- Two sites to which the same operations came.
abbrev pub HoldingSitesAgree : Type 0
HoldingSitesAgree =
    (site other limit most : ℕ) (requests asked : List ReplicaRequest) (ops more : List Operation) (one two : Holding) → 0 < site → 0 < other
    → Runs site limit requests new_holding one ops → Runs other most asked new_holding two more → AreOf ops more → AreFree ops
    → NoneCouldBeTaken limit one → NoneCouldBeTaken most two
    → cells_of one.log ≡ cells_of two.log

-- If the operations are those of a history, it is accepted, and none stays held.
abbrev pub HistoriesAreAccepted : Type 0
HistoriesAreAccepted =
    (site limit : ℕ) (requests : List ReplicaRequest) (ops set : List Operation) (end : Holding) → 0 < site
    → Runs site limit requests new_holding end ops → IsHistory set → AreOf ops set → NoneCouldBeTaken limit end
    → (end.log ≡ set) × (end.held ≡ [])

-- STEP BY STEP

-- Whatever is asked, a site keeps to what it keeps to.
abbrev pub RequestsKeep : Type 0
RequestsKeep =
    (site limit : ℕ) (request : ReplicaRequest) (s t : Holding) (more : List Operation) → 0 < site → IsHolding limit s → MayBeAsked site s.log request
    → Leads site limit request s t more → IsHolding limit t

-- What is refused, or there already, changes nothing: also of those that are held.
abbrev pub RefusedChangesNothing : Type 0
RefusedChangesNothing =
    (site limit : ℕ) (op : Operation) (s t : Holding) (more : List Operation) (fault : Fault) → IsHolding limit s
    → reply_to limit op s ≡ replies.Refused fault → Leads site limit (Offer op) s t more → t ≡ s

abbrev pub RepeatChangesNothing : Type 0
RepeatChangesNothing =
    (site limit : ℕ) (op : Operation) (s t : Holding) (more : List Operation) → IsHolding limit s
    → reply_to limit op s ≡ replies.Repeat → Leads site limit (Offer op) s t more → t ≡ s

-- With ample memory.
abbrev pub SettledSettles : Type 0
SettledSettles = (limit : ℕ) (s : Holding) → Settles limit [] s (settled limit s) (taken_then limit s)

-- Then none is left that could be taken.
abbrev pub SettledLeavesNone : Type 0
SettledLeavesNone = (limit : ℕ) (s : Holding) → next_held limit [] (settled limit s) ≡ None

-- The held ones that are taken continue the log one after the other, and change the cells so.
abbrev pub TakenInTurn : Type 0
TakenInTurn =
    (limit : ℕ) (wanting more : List Operation) (s t : Holding) → Settles limit wanting s t more
    → (t.log ≡ with_operations more s.log) × AreTakenInTurn limit s.log more

abbrev pub CellsChangeInTurn : Type 0
CellsChangeInTurn =
    (limit : ℕ) (ops log : List Operation) → IsHistory log → ((op : Operation) → HasOp ops op → keeps_rules op.body ≡ true)
    → AreTakenInTurn limit log ops
    → cells_of (with_operations ops log) ≡ all_changed ops (cells_of log)

-- What finds no room isn't New after one more operation: cells are never given up.
abbrev pub FullStays : Type 0
FullStays =
    (limit : ℕ) (op y : Operation) (log : List Operation) → IsHistory log → keeps_rules op.body ≡ true
    → answer_within limit op log ≡ Refused TextFull
    → IsHistory (with_operation y log) → answer_within limit op (with_operation y log) ≡ New → ⊥

-- WITH AMPLE MEMORY

-- Where each try finds memory, requests lead so, and in the end none is held that could be taken.
abbrev pub AmpleRuns : Type 0
AmpleRuns =
    (site limit : ℕ) (requests : List ReplicaRequest) (s : Holding) → HoldingMayBeAsked site limit requests s
    → Runs site limit requests s (holding_after_requests site limit requests s) (brought site limit requests s)

abbrev pub AmpleStay : Type 0
AmpleStay = (site limit : ℕ) (requests : List ReplicaRequest) (s : Holding) → AllStay limit s → AllStay limit (holding_after_requests site limit requests s)

-- If then none finds no room, the greatest history is accepted.
abbrev pub AmpleIsGreatest : Type 0
AmpleIsGreatest =
    (site limit : ℕ) (requests : List ReplicaRequest) → 0 < site → HoldingMayBeAsked site limit requests new_holding → AreFree (brought site limit requests new_holding)
    → ((op : Operation) → HasOp (holding_after_requests site limit requests new_holding).held op
    → has_no_room (answer_within limit op (holding_after_requests site limit requests new_holding).log) ≡ false)
    → IsGreatestHistoryWithin (brought site limit requests new_holding) (holding_after_requests site limit requests new_holding).log

-- Where nothing is held, nothing is tried.
abbrev pub NothingIsTried : Type 0
NothingIsTried =
    (limit : ℕ) (wanting more : List Operation) (s t : Holding) → s.held ≡ [] → Settles limit wanting s t more → (t ≡ s) × (more ≡ [])
