-- The statements of the laws.
use Rattle.std.specs.Prelude.{◌≡◌, ℕ, ◌+◌, ◌<◌, ◌&&◌, nat_lt, Bool, true, not, List, length, Some, slice_get, if◌then◌else◌}
use Rattle.std.specs.List.{All, AllByRecursion}
use Rattle.std.specs.Str.{bytes_eq}
use Rattle.rt_stamps.specs.declared.stamp.Span.{Span}
use Rattle.rt_stamps.specs.declared.stamp.Stamp.{Stamp}
use Rattle.rt_ops.specs.Operations.{Body, Operation, Insert, Delete, Tag, Name, stamp_of, stamps_from}
use Rattle.rt_ops.specs.Rules.{keeps_rules}
use Rattle.rt_oplog.specs.Logs.{with_operation}
use Rattle.rt_store.specs.Cells.{put_at, stamps_of, text_of, visible_of}
use Rattle.rt_store.specs.Shown.{TaggedCell}
use Rattle.rt_store.specs.Spans.{is_among}
use Rattle.rt_tags.specs.Writers.{is_shared}
use Rattle.rt_tags.specs.Tags.{is_listed}
use Rattle.rt_rga.specs.Answers.{all_taken}
use Rattle.rt_rga.specs.Cells.{cells_of, stamped_writes_on}
use Rattle.rt_rga.specs.Drafts.{AreDraftsFor, ContinueInTurn, operations_of, with_drafts, with_operations}
use Rattle.rt_rga.specs.Histories.{Continues, IsHistory}
use Rattle.rt_rga.specs.Requests.{AllMayBeAsked, ReplicaRequest, after_requests}
use Rattle.rt_rga.specs.Taken.{AreFallingRuns, IsChange, differ, is_in_runs, place_in, retags, takes_away}
use Rattle.rt_rga.specs.Texts.{tagged_text}
use Rattle.rt_rga.specs.declared.taken.Change.{Change}
use Rattle.rt_rga.specs.declared.taken.PlaceRun.{PlaceRun}
use Rattle.rt_changes.specs.Exact.{EachChanges}
use Rattle.rt_changes.specs.Replays.{AreInText, all_changes, all_under, changed_at, changes_by_requests, changes_in_turn, changes_of, left_at, replayed, runs_of, tagged_with, tags_with, told_by}
use Rattle.rt_changes.specs.Telling.{AreExactInTurn}

-- THE VISIBLE TEXT

-- An Insert puts its characters in at its place, each with its tags.
abbrev pub InsertsPutIn : Type 0
InsertsPutIn =
    (set : List Operation) (op : Operation) (after : Stamp) (tags : List Name) (text : List ℕ) → op.body ≡ Insert after tags text
    → IsHistory set → Continues set op
    → tagged_text (cells_of (with_operation op set)) ≡ put_at (place_in op (cells_of set)) (all_under tags text) (tagged_text (cells_of set))

-- A Delete leaves the characters at the other places, in order.
abbrev pub DeletesTakeAway : Type 0
DeletesTakeAway =
    (set : List Operation) (op : Operation) (spans : List Span) → op.body ≡ Delete spans → IsHistory set → Continues set op
    → tagged_text (cells_of (with_operation op set)) ≡ left_at (takes_away op.body (cells_of set)) 0 (tagged_text (cells_of set))

-- A Tag puts its tag on the characters at its places or takes it off, and leaves all others.
abbrev pub TagsRetag : Type 0
TagsRetag =
    (set : List Operation) (op : Operation) (on : Bool) (name : Name) (spans : List Span) → op.body ≡ Tag on name spans
    → IsHistory set → Continues set op
    → tagged_text (cells_of (with_operation op set))
    ≡ changed_at (retags (stamp_of op) op.body (cells_of set)) (tagged_with on name) 0 (tagged_text (cells_of set))

-- What an Insert, a Delete and a Tag do to the characters, without their tags.
abbrev pub InsertsPutTextIn : Type 0
InsertsPutTextIn =
    (set : List Operation) (op : Operation) (after : Stamp) (tags : List Name) (text : List ℕ) → op.body ≡ Insert after tags text
    → IsHistory set → Continues set op
    → text_of (cells_of (with_operation op set)) ≡ put_at (place_in op (cells_of set)) text (text_of (cells_of set))

abbrev pub DeletesTakeTextAway : Type 0
DeletesTakeTextAway =
    (set : List Operation) (op : Operation) (spans : List Span) → op.body ≡ Delete spans → IsHistory set → Continues set op
    → text_of (cells_of (with_operation op set)) ≡ left_at (takes_away op.body (cells_of set)) 0 (text_of (cells_of set))

abbrev pub TagsLeaveText : Type 0
TagsLeaveText =
    (set : List Operation) (op : Operation) (on : Bool) (name : Name) (spans : List Span) → op.body ≡ Tag on name spans
    → IsHistory set → Continues set op → text_of (cells_of (with_operation op set)) ≡ text_of (cells_of set)

-- What an Insert, a Delete and a Tag do to the stamps of the characters, which tell one character from another.
abbrev pub InsertsPutStampsIn : Type 0
InsertsPutStampsIn =
    (set : List Operation) (op : Operation) (after : Stamp) (tags : List Name) (text : List ℕ) → op.body ≡ Insert after tags text
    → IsHistory set → Continues set op
    → stamps_of (visible_of (cells_of (with_operation op set)))
    ≡ put_at (place_in op (cells_of set)) (stamps_from op.site op.count (length text)) (stamps_of (visible_of (cells_of set)))

abbrev pub DeletesTakeStampsAway : Type 0
DeletesTakeStampsAway =
    (set : List Operation) (op : Operation) (spans : List Span) → op.body ≡ Delete spans → IsHistory set → Continues set op
    → stamps_of (visible_of (cells_of (with_operation op set)))
    ≡ left_at (takes_away op.body (cells_of set)) 0 (stamps_of (visible_of (cells_of set)))

abbrev pub TagsLeaveStamps : Type 0
TagsLeaveStamps =
    (set : List Operation) (op : Operation) (on : Bool) (name : Name) (spans : List Span) → op.body ≡ Tag on name spans
    → IsHistory set → Continues set op
    → stamps_of (visible_of (cells_of (with_operation op set))) ≡ stamps_of (visible_of (cells_of set))

-- RUNS AND TAGS

-- The longest runs of some places below a bound have just these places,
abbrev pub RunsHavePlaces : Type 0
RunsHavePlaces = (at : ℕ → Bool) (bound place : ℕ) → is_in_runs (runs_of at bound) place ≡ (at place && nat_lt place bound)

-- the last in the text first, with a place between one and the next;
abbrev pub RunsFall : Type 0
RunsFall = (at : ℕ → Bool) (bound : ℕ) → AreFallingRuns (bound + 1) (runs_of at bound)

-- and no other such runs have them.
abbrev pub RunsAreKnown : Type 0
RunsAreKnown =
    (end more : ℕ) (runs other : List PlaceRun) → AreFallingRuns end runs → AreFallingRuns more other
    → ((place : ℕ) → is_in_runs runs place ≡ is_in_runs other place) → runs ≡ other

-- With a tag on or off, this tag is listed or not, and each other one as before.
abbrev pub TagsAreListed : Type 0
TagsAreListed =
    (on : Bool) (name other : Name) (tags : List Name)
    → is_listed other (tags_with on name tags) ≡ (if bytes_eq other name then on else is_listed other tags)

-- REPLAYED

-- Each change of an operation is within the text that those before it leave.
abbrev pub ChangesAreInText : Type 0
ChangesAreInText =
    (set : List Operation) (op : Operation) → IsHistory set → Continues set op
    → AreInText (changes_of op (cells_of set)) (tagged_text (cells_of set))

-- What the code tells of an operation are these changes.
abbrev pub ToldAreChanges : Type 0
ToldAreChanges = (op : Operation) (cells : List TaggedCell) (change : Change) → IsChange op cells change → told_by op.body change ≡ changes_of op cells

-- The changes of an operation, replayed on the text before it, give the text after it.
abbrev pub ChangesAreReplayed : Type 0
ChangesAreReplayed =
    (set : List Operation) (op : Operation) → IsHistory set → Continues set op
    → replayed (changes_of op (cells_of set)) (tagged_text (cells_of set)) ≡ tagged_text (cells_of (with_operation op set))

-- So do the changes of operations that are offered one after the other.
abbrev pub OffersAreReplayed : Type 0
OffersAreReplayed =
    (ops set : List Operation) → IsHistory set → AllByRecursion (λ op. keeps_rules op.body ≡ true) ops
    → replayed (all_changes ops set) (tagged_text (cells_of set)) ≡ tagged_text (cells_of (all_taken ops set))

-- So do those of a site's own operations.
abbrev pub OwnAreReplayed : Type 0
OwnAreReplayed =
    (site : ℕ) (drafts : List Body) (set : List Operation) → 0 < site → IsHistory set → AreDraftsFor site set drafts
    → replayed (changes_in_turn (operations_of site drafts set) set) (tagged_text (cells_of set))
    ≡ tagged_text (cells_of (with_drafts site drafts set))

-- And so do those of whatever is asked of a site's replica.
abbrev pub RequestsAreReplayed : Type 0
RequestsAreReplayed =
    (site limit : ℕ) (requests : List ReplicaRequest) (set : List Operation) → 0 < site → IsHistory set → AllMayBeAsked site limit set requests
    → replayed (changes_by_requests site limit requests set) (tagged_text (cells_of set))
    ≡ tagged_text (cells_of (after_requests site limit requests set))

-- TAKEN IN TURN

-- The changes of operations that continue a log one after the other, replayed on the text before all, give the text after all.
abbrev pub TakenAreReplayed : Type 0
TakenAreReplayed =
    (ops log : List Operation) → IsHistory log → ContinueInTurn log ops
    → replayed (changes_in_turn ops log) (tagged_text (cells_of log)) ≡ tagged_text (cells_of (with_operations ops log))

-- Each of these changes is within the text that those before it leave,
abbrev pub TakenAreInText : Type 0
TakenAreInText =
    (ops log : List Operation) → IsHistory log → ContinueInTurn log ops
    → AreInText (changes_in_turn ops log) (tagged_text (cells_of log))

-- and each place that one names is one that its operation changes.
abbrev pub TakenAreExact : Type 0
TakenAreExact = (ops log : List Operation) → IsHistory log → ContinueInTurn log ops → AreExactInTurn ops log

-- NO MORE THAN CHANGES

-- A place is taken away where its character isn't visible afterwards.
abbrev pub TakenAreGone : Type 0
TakenAreGone =
    (set : List Operation) (op : Operation) (place : ℕ) (stamp : Stamp) → IsHistory set → Continues set op
    → slice_get (stamps_of (visible_of (cells_of set))) place ≡ Some stamp
    → takes_away op.body (cells_of set) place ≡ not (is_among (stamps_of (visible_of (cells_of (with_operation op set)))) stamp)

-- A Tag changes a place where the greatest write of the tag on its character says otherwise with the Tag than without it.
abbrev pub RetaggedDiffer : Type 0
RetaggedDiffer =
    (set : List Operation) (op : Operation) (on : Bool) (name : Name) (spans : List Span) (place : ℕ) (stamp : Stamp)
    → op.body ≡ Tag on name spans → IsHistory set → Continues set op
    → slice_get (stamps_of (visible_of (cells_of set))) place ≡ Some stamp
    → retags (stamp_of op) op.body (cells_of set) place
    ≡ differ (is_shared name (stamped_writes_on set stamp)) (is_shared name (stamped_writes_on (with_operation op set) stamp))

-- Each place that a change names is one that changes.
abbrev pub ChangesAreExact : Type 0
ChangesAreExact =
    (set : List Operation) (op : Operation) → IsHistory set → Continues set op
    → All (EachChanges (cells_of set) (cells_of (with_operation op set))) (changes_of op (cells_of set))
