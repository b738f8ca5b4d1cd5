-- The statements of those laws that are too long for a clause.
use Rattle.std.specs.Prelude.{◌≡◌, ◌↔◌, ◌⊎◌, ℕ, ◌+◌, ◌<◌, ◌≤◌, ◌==◌, Bool, true, false, not, ◌&&◌, ◌||◌, List, [], ◌∷◌, ◌++◌, length, map, reverse, None, Ok}
use Rattle.std.specs.List.{All, list_all, list_any}
use Rattle.rt_stamps.specs.Names.{sel}
use Rattle.rt_stamps.specs.Spans.{is_span}
use Rattle.rt_stamps.specs.Stamps.{is_same}
use Rattle.rt_stamps.specs.declared.limits.TheConstants.{GREATEST_COUNT}
use Rattle.rt_stamps.specs.declared.fault.Fault.TheVariants.{BadTarget, Conflict, TextFull}
use Rattle.rt_stamps.specs.declared.stamp.Span.{Span}
use Rattle.rt_stamps.specs.declared.stamp.Stamp.{Stamp}
use Rattle.rt_stamps.specs.declared.stamp.TheConstants.{FINAL, ROOT}
use Rattle.rt_tags.specs.States.{IsState, KeepsIds, TagStates, is_on, names_on, state_at, write_of}
use Rattle.rt_tags.specs.Tags.{is_listed}
use Rattle.rt_tags.specs.Writers.{is_shared, listed_by, state_after}
use Rattle.rt_store.specs.declared.cell.Cell.{Cell}
use Rattle.rt_store.specs.Cells.{after_element, cells_from, IsPlaced, put_at, skip_from, stamps_of}
use Rattle.rt_store.specs.Tagged.{AreStates}
use Rattle.rt_ops.specs.Operations.{Body, Operation, Insert, Delete, Tag, Name, has_bad_stamp, last_of, stamp_of, stamps_in, stamps_of_span}
use Rattle.rt_oplog.specs.Logs.{AreOf, HasOp, clash, joined, known_end, union, with_operation}
use Rattle.rt_ops.specs.Rules.{keeps_rules}
use Rattle.rt_rga.specs.Reading.{reading}
use Rattle.rt_rga.specs.Histories.{Continues, IsHistory, characters, greatest_last_count, has_character, inserted, is_known}
use Rattle.rt_rga.specs.Cells.{cells_of, stamped_writes_on}
use Rattle.rt_rga.specs.Changes.{changed, written_in_any}
use Rattle.rt_rga.specs.Answers.{New, Refused, all_taken, answer_to, answer_within, can_never_be_known, has_gap, passes_end, taken, up_to}
use Rattle.rt_rga.specs.Drafts.{AreDraftsFor, IsDraftFor, all_changed, next_operation, operations_of, with_drafts}
use Rattle.rt_rga.specs.Made.{refusal_of, unless_refused}
use Rattle.rt_rga.specs.Orders.{AreIn, ComeInTime, HasBasesIn}
use Rattle.rt_rga.specs.Replicas.{IsReplica}
use Rattle.rt_rga.specs.Requests.{AllMayBeAsked, Make, MayBeMade, Offer, ReplicaRequest, after_request, after_requests, characters_in_all, last_count_after}
use Rattle.rt_store.specs.Shown.{TaggedCell, shown}
use Rattle.rt_store.specs.Spans.{gone_in_any, is_among, is_in_spans}
use Rattle.rt_rga.specs.Texts.{tagged_text}

-- HISTORIES AND THEIR CELLS

-- The larger reading is the smaller one with the new characters put in.
abbrev pub InsertsSkipGreater : Type 0
InsertsSkipGreater =
    (set : List Operation) (op : Operation) (after : Stamp) (tags : List Name) (text : List ℕ) → op.body ≡ Insert after tags text
    → IsHistory set → IsHistory (with_operation op set)
    → reading (characters (with_operation op set)) ≡ put_at (skip_from (cells_of set) after (stamp_of op)) (inserted op) (reading (characters set))

-- Of operations that keep the rules.
abbrev pub NewMakesLarger : Type 0
NewMakesLarger =
    (set : List Operation) (op : Operation) → IsHistory set → keeps_rules op.body ≡ true
    → (answer_to op set ≡ New) ↔ IsHistory (with_operation op set)

abbrev pub CellsAreChanged : Type 0
CellsAreChanged =
    (set : List Operation) (op : Operation) → IsHistory set → IsHistory (with_operation op set)
    → cells_of (with_operation op set) ≡ changed op (cells_of set)

abbrev pub EitherOrderWillDo : Type 0
EitherOrderWillDo =
    (a b : Operation) (set : List Operation) → IsHistory set → Continues set a → Continues set b → (a.site == b.site) ≡ false
    → changed a (changed b (cells_of set)) ≡ changed b (changed a (cells_of set))

abbrev pub CellsAreCharacters : Type 0
CellsAreCharacters =
    (set : List Operation) (stamp : Stamp) → IsHistory set
    → is_among (stamps_of (cells_of set)) stamp ≡ (has_character set stamp || is_same FINAL stamp)

-- `sel` is each widget's own.
abbrev pub SelIsInNoState : Type 0
SelIsInNoState = (set : List Operation) → IsHistory set → All (λ cell. write_of sel cell.state ≡ None) (cells_of set)

-- What is on each character, and what is listed for it: each tag whose greatest write says on.
abbrev pub GreatestDecide : Type 0
GreatestDecide =
    (set : List Operation) (name : Name) → IsHistory set
    → All (λ cell. is_on name cell.state ≡ is_shared name (stamped_writes_on set cell.stamp)) (cells_of set)

abbrev pub SharedAreListed : Type 0
SharedAreListed =
    (set : List Operation) (name : Name) → IsHistory set
    → All (λ cell. is_listed name (names_on cell.state) ≡ is_shared name (stamped_writes_on set cell.stamp)) (cells_of set)

abbrev pub InsertsArePlaced : Type 0
InsertsArePlaced =
    (set : List Operation) (op : Operation) (after : Stamp) (tags : List Name) (text : List ℕ) → op.body ≡ Insert after tags text
    → IsHistory set → Continues set op → IsPlaced (cells_of set) after (stamp_of op)

abbrev pub FinalIsSpared : Type 0
FinalIsSpared =
    (set : List Operation) (op : Operation) (spans : List Span) → op.body ≡ Delete spans → IsHistory set → Continues set op
    → is_in_spans spans FINAL ≡ false

abbrev pub CellsAreCounted : Type 0
CellsAreCounted =
    (set : List Operation) (op : Operation) → IsHistory set → IsHistory (with_operation op set)
    → length (cells_of (with_operation op set)) ≡ length (cells_of set) + length (inserted op)

-- OFFERS

-- An operation of a history is new to a smaller one just where this has those that it was made upon.
abbrev pub NewHasItsBases : Type 0
NewHasItsBases =
    (set older : List Operation) (op : Operation) → IsHistory set → IsHistory older → AreIn older set → HasOp set op → (HasOp older op → ⊥)
    → (answer_to op older ≡ New) ↔ HasBasesIn set op older

-- Operations of a history that come in time, and with those that were there at first are all of it, make it.
abbrev pub InTimeIsTaken : Type 0
InTimeIsTaken =
    (set first ops : List Operation) → IsHistory set → IsHistory first
    → ((op : Operation) → HasOp set op ↔ (HasOp first op ⊎ HasOp ops op)) → ComeInTime set first ops
    → all_taken ops first ≡ set

-- So they do at a site that keeps at most so many cells, if the history has no more.
abbrev pub InTimeIsTakenWithin : Type 0
InTimeIsTakenWithin =
    (site limit : ℕ) (set first ops : List Operation) → IsHistory set → IsHistory first
    → ((op : Operation) → HasOp set op ↔ (HasOp first op ⊎ HasOp ops op)) → ComeInTime set first ops
    → length (cells_of set) ≤ limit → after_requests site limit (map Offer ops) first ≡ set

-- An offer adds the operation, where it is answered New, and nothing else.
abbrev pub OffersAddNew : Type 0
OffersAddNew = (set : List Operation) (op x : Operation) → HasOp (taken op set) x ↔ (HasOp set x ⊎ ((op ≡ x) × (answer_to op set ≡ New)))

abbrev pub ConflictsAreClashes : Type 0
ConflictsAreClashes =
    (set : List Operation) (op : Operation) → IsHistory set → has_bad_stamp op ≡ false → (HasOp set op → ⊥)
    → (answer_to op set ≡ Refused Conflict) ↔ (list_any (clash op) set ≡ true)

abbrev pub ConflictsStay : Type 0
ConflictsStay =
    (set more : List Operation) (op : Operation) → IsHistory set → IsHistory more → AreIn set more
    → answer_to op set ≡ Refused Conflict → answer_to op more ≡ Refused Conflict

abbrev pub BadTargetsStay : Type 0
BadTargetsStay =
    (set more : List Operation) (op : Operation) → IsHistory set → IsHistory more → AreIn set more
    → answer_to op set ≡ Refused BadTarget → (answer_to op more ≡ Refused BadTarget) ⊎ (answer_to op more ≡ Refused Conflict)

abbrev pub NewHasRoom : Type 0
NewHasRoom =
    (set : List Operation) (op : Operation) (limit : ℕ) → IsHistory set → keeps_rules op.body ≡ true
    → (answer_within limit op set ≡ New) ↔ (IsHistory (with_operation op set) × (length (cells_of (with_operation op set)) ≤ limit))

abbrev pub FullHasNone : Type 0
FullHasNone =
    (set : List Operation) (op : Operation) (limit : ℕ) → IsHistory set → keeps_rules op.body ≡ true
    → (answer_within limit op set ≡ Refused TextFull) ↔ (IsHistory (with_operation op set) × (limit < length (cells_of (with_operation op set))))

abbrev pub RequestsLeaveHistory : Type 0
RequestsLeaveHistory =
    (site limit : ℕ) (requests : List ReplicaRequest) (set : List Operation) → 0 < site → IsHistory set
    → AllMayBeAsked site limit set requests → IsHistory (after_requests site limit requests set)

abbrev pub RequestsKeepLimit : Type 0
RequestsKeepLimit =
    (site limit : ℕ) (requests : List ReplicaRequest) (set : List Operation) → 0 < site → IsHistory set
    → AllMayBeAsked site limit set requests → length (cells_of set) ≤ limit
    → length (cells_of (after_requests site limit requests set)) ≤ limit

-- Two sites that were asked whatever it was, and have the same operations.
abbrev pub SitesAgree : Type 0
SitesAgree =
    (site other limit most : ℕ) (asked more : List ReplicaRequest) → 0 < site → 0 < other
    → AllMayBeAsked site limit [] asked → AllMayBeAsked other most [] more
    → AreOf (after_requests site limit asked []) (after_requests other most more [])
    → cells_of (after_requests site limit asked []) ≡ cells_of (after_requests other most more [])

-- Two histories, no operation of one of which clashes with one of the other.
abbrev pub ClashFreeAreJoined : Type 0
ClashFreeAreJoined =
    (one other : List Operation) → IsHistory one → IsHistory other
    → ((p q : Operation) → HasOp one p → HasOp other q → clash p q ≡ false)
    → joined one other ≡ Ok (union one other)

-- The operations of one offered to the other by rising stamp, as a file has them.
abbrev pub ClashFreeAreTaken : Type 0
ClashFreeAreTaken =
    (one other : List Operation) → IsHistory one → IsHistory other
    → ((p q : Operation) → HasOp one p → HasOp other q → clash p q ≡ false)
    → all_taken (reverse other) one ≡ union one other

-- A SITE'S OWN OPERATIONS

abbrev pub NewestIsFirst : Type 0
NewestIsFirst =
    (site : ℕ) (draft : Body) (set : List Operation)
    → with_operation (next_operation site draft set) set ≡ next_operation site draft set ∷ set

abbrev pub NewestSkipsNothing : Type 0
NewestSkipsNothing =
    (set : List Operation) (left new : Stamp) → IsHistory set → new.count ≡ greatest_last_count set + 1
    → skip_from (cells_of set) left new ≡ after_element (cells_of set) left

abbrev pub DraftsLeaveHistory : Type 0
DraftsLeaveHistory =
    (site : ℕ) (drafts : List Body) (set : List Operation) → 0 < site → IsHistory set → AreDraftsFor site set drafts
    → IsHistory (with_drafts site drafts set)

abbrev pub DraftsChangeInTurn : Type 0
DraftsChangeInTurn =
    (site : ℕ) (drafts : List Body) (set : List Operation) → 0 < site → IsHistory set → AreDraftsFor site set drafts
    → cells_of (with_drafts site drafts set) ≡ all_changed (operations_of site drafts set) (cells_of set)

abbrev pub MadeIsNew : Type 0
MadeIsNew =
    (site : ℕ) (draft : Body) (set : List Operation) → 0 < site → IsHistory set → IsDraftFor set draft
    → answer_to (next_operation site draft set) set ≡ New

abbrev pub DraftsCountOn : Type 0
DraftsCountOn =
    (site : ℕ) (draft : Body) (set : List Operation)
    → greatest_last_count (with_operation (next_operation site draft set) set) ≡ last_of (greatest_last_count set + 1) draft

abbrev pub DraftsFit : Type 0
DraftsFit =
    (site : ℕ) (drafts : List Body) (set : List Operation) → IsHistory set → MayBeMade site set drafts
    → (AreDraftsFor site set drafts) ↔ (last_count_after (greatest_last_count set) drafts ≤ GREATEST_COUNT)

abbrev pub AllDraftsCountOn : Type 0
AllDraftsCountOn =
    (site : ℕ) (drafts : List Body) (set : List Operation)
    → greatest_last_count (with_drafts site drafts set) ≡ last_count_after (greatest_last_count set) drafts

abbrev pub DraftsAreCounted : Type 0
DraftsAreCounted =
    (site : ℕ) (drafts : List Body) (set : List Operation) → 0 < site → IsHistory set → AreDraftsFor site set drafts
    → length (cells_of (with_drafts site drafts set)) ≡ length (cells_of set) + characters_in_all drafts

-- DRAFTS AFTER DRAFTS

-- The operations of drafts and more are those of the drafts, and then those of the others on the set with them.
abbrev pub OperationsAppend : Type 0
OperationsAppend =
    (site : ℕ) (drafts more : List Body) (set : List Operation)
    → operations_of site (drafts ++ more) set ≡ operations_of site drafts set ++ operations_of site more (with_drafts site drafts set)

abbrev pub SetsAppend : Type 0
SetsAppend =
    (site : ℕ) (drafts more : List Body) (set : List Operation)
    → with_drafts site (drafts ++ more) set ≡ with_drafts site more (with_drafts site drafts set)

abbrev pub ChangesAppend : Type 0
ChangesAppend =
    (site : ℕ) (drafts more : List Body) (set : List Operation) (cells : List TaggedCell)
    → all_changed (operations_of site (drafts ++ more) set) cells
    ≡ all_changed (operations_of site more (with_drafts site drafts set)) (all_changed (operations_of site drafts set) cells)

abbrev pub BothMayBeMade : Type 0
BothMayBeMade =
    (site : ℕ) (drafts more : List Body) (set : List Operation)
    → MayBeMade site set (drafts ++ more) ↔ (MayBeMade site set drafts × MayBeMade site (with_drafts site drafts set) more)

abbrev pub CountsAppend : Type 0
CountsAppend =
    (drafts more : List Body) (count : ℕ) → last_count_after count (drafts ++ more) ≡ last_count_after (last_count_after count drafts) more

abbrev pub CharactersAppend : Type 0
CharactersAppend = (drafts more : List Body) → characters_in_all (drafts ++ more) ≡ characters_in_all drafts + characters_in_all more

-- WHAT IS KEPT

-- Of two replicas whose logs have the same operations.
abbrev pub EqualLogsShowEqualCells : Type 0
EqualLogsShowEqualCells =
    (one other : List Operation) (table tags : TagStates) (kept more : List (Cell ℕ))
    → IsReplica one table kept → IsReplica other tags more → AreOf one other
    → map (shown table) kept ≡ map (shown tags) more

abbrev pub EqualLogsShowEqualText : Type 0
EqualLogsShowEqualText =
    (one other : List Operation) (table tags : TagStates) (kept more : List (Cell ℕ))
    → IsReplica one table kept → IsReplica other tags more → AreOf one other
    → tagged_text (map (shown table) kept) ≡ tagged_text (map (shown tags) more)

abbrev pub InsertIsKept : Type 0
InsertIsKept =
    (log : List Operation) (table new : TagStates) (kept : List (Cell ℕ)) (op : Operation) (after : Stamp) (tags : List Name) (text : List ℕ) (state : ℕ)
    → IsReplica log table kept → op.body ≡ Insert after tags text → Continues log op
    → KeepsIds table new → IsState new state → state_at new state ≡ state_after [] (listed_by ROOT tags)
    → IsReplica (with_operation op log) new (put_at (skip_from kept after (stamp_of op)) (cells_from op.count op.site state text) kept)

abbrev pub InsertFindsPlace : Type 0
InsertFindsPlace =
    (log : List Operation) (table : TagStates) (kept : List (Cell ℕ)) (op : Operation) (after : Stamp) (tags : List Name) (text : List ℕ)
    → IsReplica log table kept → op.body ≡ Insert after tags text → Continues log op → IsPlaced kept after (stamp_of op)

abbrev pub DeleteIsKept : Type 0
DeleteIsKept =
    (log : List Operation) (table : TagStates) (kept : List (Cell ℕ)) (op : Operation) (spans : List Span)
    → IsReplica log table kept → op.body ≡ Delete spans → Continues log op
    → IsReplica (with_operation op log) table (map (gone_in_any spans) kept)

abbrev pub TagIsKept : Type 0
TagIsKept =
    (log : List Operation) (table new : TagStates) (kept more : List (Cell ℕ)) (op : Operation) (on : Bool) (name : Name) (spans : List Span)
    → IsReplica log table kept → op.body ≡ Tag on name spans → Continues log op → AreStates new more
    → map (shown new) more ≡ map (written_in_any spans (record { name = name; writer = stamp_of op; on = on })) (map (shown table) kept)
    → IsReplica (with_operation op log) new more

-- SPANS, WITHOUT ALL THEIR STAMPS

abbrev pub SpansNameTheirStamps : Type 0
SpansNameTheirStamps = (spans : List Span) (stamp : Stamp) → is_among (stamps_in spans) stamp ≡ is_in_spans spans stamp

abbrev pub SpansAreKnown : Type 0
SpansAreKnown =
    (set : List Operation) (body : Body) (span : Span) → (span.site == 0) ≡ false
    → list_all (is_known set body) (stamps_of_span span) ≡ not (has_gap set span)

abbrev pub GapsAreWithinEnd : Type 0
GapsAreWithinEnd =
    (set : List Operation) (span : Span)
    → has_gap set span
    ≡ (has_gap set (up_to (known_end set span.site) span) || passes_end set span)

abbrev pub BadSpansAreWithinEnd : Type 0
BadSpansAreWithinEnd =
    (set : List Operation) (op : Operation) (span : Span) → (span.site == 0) ≡ false
    → list_any (can_never_be_known set op) (stamps_of_span span)
    ≡ (has_gap set (up_to (known_end set span.site) span) || ((span.site == op.site) && has_gap set span))

-- Of site 0 a Delete names nothing, and a Tag the final newline alone.
abbrev pub DeletesOfZeroAreBad : Type 0
DeletesOfZeroAreBad =
    (set : List Operation) (op : Operation) (spans : List Span) (span : Span) → op.body ≡ Delete spans → (span.site == 0) ≡ true → is_span span ≡ true
    → list_any (can_never_be_known set op) (stamps_of_span span) ≡ true

abbrev pub TagsOfZeroAreFinal : Type 0
TagsOfZeroAreFinal =
    (set : List Operation) (op : Operation) (on : Bool) (name : Name) (spans : List Span) (span : Span)
    → op.body ≡ Tag on name spans → (span.site == 0) ≡ true → is_span span ≡ true
    → list_any (can_never_be_known set op) (stamps_of_span span) ≡ not ((span.first == 1) && (span.last == 1))

abbrev pub FinalIsKnown : Type 0
FinalIsKnown =
    (set : List Operation) (on : Bool) (name : Name) (spans : List Span) (span : Span) → IsHistory set → (span.site == 0) ≡ true → is_span span ≡ true
    → list_all (is_known set (Tag on name spans)) (stamps_of_span span) ≡ ((span.first == 1) && (span.last == 1))

-- WHAT IS MADE

-- A request to make drafts does what a replica's `make` does: it makes the operations unless the drafts are refused.
abbrev pub RequestsMakeUnlessRefused : Type 0
RequestsMakeUnlessRefused =
    (site limit : ℕ) (drafts : List Body) (set : List Operation) → 0 < site → IsHistory set → MayBeMade site set drafts
    → after_request site limit (Make drafts) set ≡ unless_refused (refusal_of limit drafts set) (with_drafts site drafts set) set
