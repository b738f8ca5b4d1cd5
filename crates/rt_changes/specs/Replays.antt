-- What an operation does to the visible text with its tags, as a list of changes that are replayed one after the other.
use Rattle.std.specs.Prelude.{ℕ, zero, suc, ◌+◌, ◌<◌, ◌≤◌, ◌==◌, Bool, List, [], ◌∷◌, ◌++◌, length, take, drop, map, filter, if◌then◌else◌}
use Rattle.std.specs.Ordering.{is_gt, is_lt}
use Rattle.rt_stamps.specs.declared.stamp.Stamp.{Stamp}
use Rattle.rt_stamps.specs.Names.{name_order}
use Rattle.rt_ops.specs.Operations.{Operation, Body, Insert, Delete, Tag, Name, stamp_of}
use Rattle.rt_oplog.specs.Logs.{with_operation}
use Rattle.rt_store.specs.Cells.{put_at, visible_of}
use Rattle.rt_store.specs.Shown.{TaggedCell}
use Rattle.rt_rga.specs.Answers.{Answer, New, Repeat, Refused, answer_to, answer_within, taken}
use Rattle.rt_rga.specs.Cells.{cells_of}
use Rattle.rt_rga.specs.Drafts.{operations_of}
use Rattle.rt_rga.specs.Requests.{Make, Offer, ReplicaRequest, after_request, fit}
use Rattle.rt_rga.specs.Taken.{place_by, retags, takes_away}
use Rattle.rt_rga.specs.Texts.{TaggedCharacter}
use Rattle.rt_rga.specs.declared.taken.Change.{Change}
use Rattle.rt_rga.specs.declared.taken.PlaceRun.{PlaceRun}

-- A TEXT THAT CHANGES

-- the elements of a list but those at some places, of which the first is at a given one
abbrev pub left_at : {X : Type 0} → (ℕ → Bool) → ℕ → List X → List X
left_at removed place [] = []
left_at removed place (x ∷ xs) = if removed place then left_at removed (place + 1) xs else x ∷ left_at removed (place + 1) xs

-- the elements of a list, those at some places changed
abbrev pub changed_at : {X : Type 0} → (ℕ → Bool) → (X → X) → ℕ → List X → List X
changed_at at change place [] = []
changed_at at change place (x ∷ xs) = (if at place then change x else x) ∷ changed_at at change (place + 1) xs

-- characters under one list of tags
abbrev pub all_under : List Name → List ℕ → List TaggedCharacter
all_under tags text = map (λ ch. record { ch = ch; tags = tags }) text

-- tags, in the order of their bytes, with one of them on or off
abbrev pub tags_with : Bool → Name → List Name → List Name
tags_with on name tags =
    filter (λ x. is_lt (name_order x name)) tags ++ ((if on then name ∷ [] else []) ++ filter (λ x. is_gt (name_order x name)) tags)

-- a character with one of its tags on or off
abbrev pub tagged_with : Bool → Name → TaggedCharacter → TaggedCharacter
tagged_with on name c = record c { tags = tags_with on name c.tags }

-- CHANGES OF THE VISIBLE TEXT

-- Characters are taken away, put in, or one of their tags is put on or taken off. Places count visible characters, in the text
-- that the changes before leave.
pub data VisibleChange : Type 0 where
  Deleted : (from to : ℕ) → VisibleChange
  Inserted : (at : ℕ) (text : List ℕ) (tags : List Name) → VisibleChange
  Tagged : (on : Bool) (name : Name) (from to : ℕ) → VisibleChange

abbrev pub with_change : VisibleChange → List TaggedCharacter → List TaggedCharacter
with_change (Deleted from to) text = take from text ++ drop to text
with_change (Inserted at new tags) text = put_at at (all_under tags new) text
with_change (Tagged on name from to) text = take from text ++ (map (tagged_with on name) (drop from (take to text)) ++ drop to text)

abbrev pub replayed : List VisibleChange → List TaggedCharacter → List TaggedCharacter
replayed [] text = text
replayed (change ∷ changes) text = replayed changes (with_change change text)

-- Each change is of at least one character, in the text that those before it leave, and none takes away or goes behind the last
-- character.
abbrev pub IsInText : VisibleChange → ℕ → Type 0
IsInText (Deleted from to) size = (from < to) × (to < size)
IsInText (Inserted at text tags) size = (at < size) × (1 ≤ length text)
IsInText (Tagged on name from to) size = (from < to) × (to ≤ size)

abbrev pub AreInText : List VisibleChange → List TaggedCharacter → Type 0
AreInText [] text = Unit {0}
AreInText (change ∷ changes) text = IsInText change (length text) × AreInText changes (with_change change text)

-- WHAT AN OPERATION CHANGES

-- one more place above those of some runs: it makes the first of them longer, or is a run of its own
abbrev pub with_place : ℕ → List PlaceRun → List PlaceRun
with_place place [] = record { from = place; to = place + 1 } ∷ []
with_place place (run ∷ runs) =
    if run.to == place then record { from = run.from; to = place + 1 } ∷ runs else record { from = place; to = place + 1 } ∷ (run ∷ runs)

-- the longest runs of some places below a bound, the last in the text first
abbrev pub runs_of : (ℕ → Bool) → ℕ → List PlaceRun
runs_of at zero = []
runs_of at (suc bound) = if at bound then with_place bound (runs_of at bound) else runs_of at bound

-- The changes that an operation makes to the visible text of cells. Runs come the last in the text first, so that each has the
-- places that it had before the operation.
abbrev pub body_changes : Stamp → Body → List TaggedCell → List VisibleChange
body_changes stamp (Insert after tags text) cells = Inserted (place_by stamp (Insert after tags text) cells) text tags ∷ []
body_changes stamp (Delete spans) cells =
    map (λ run. Deleted run.from run.to) (runs_of (takes_away (Delete spans) cells) (length (visible_of cells)))
body_changes stamp (Tag on name spans) cells =
    map (λ run. Tagged on name run.from run.to) (runs_of (retags stamp (Tag on name spans) cells) (length (visible_of cells)))

abbrev pub changes_of : Operation → List TaggedCell → List VisibleChange
changes_of op cells = body_changes (stamp_of op) op.body cells

-- what the code tells of an operation that is new, as changes
abbrev pub told_by : Body → Change → List VisibleChange
told_by (Insert after tags text) change = Inserted change.place text tags ∷ []
told_by (Delete spans) change = map (λ run. Deleted run.from run.to) change.removed.items
told_by (Tag on name spans) change = map (λ run. Tagged on name run.from run.to) change.retagged.items

-- WHAT OPERATIONS CHANGE IN TURN

-- the changes of operations each of which is new after those before it
abbrev pub changes_in_turn : List Operation → List Operation → List VisibleChange
changes_in_turn [] set = []
changes_in_turn (op ∷ ops) set = changes_of op (cells_of set) ++ changes_in_turn ops (with_operation op set)

abbrev pub changes_if_new : Answer → Operation → List TaggedCell → List VisibleChange
changes_if_new New op cells = changes_of op cells
changes_if_new Repeat op cells = []
changes_if_new (Refused fault) op cells = []

-- the changes of those that are new of operations that are offered one after the other
abbrev pub all_changes : List Operation → List Operation → List VisibleChange
all_changes [] set = []
all_changes (op ∷ ops) set = changes_if_new (answer_to op set) op (cells_of set) ++ all_changes ops (taken op set)

-- WHAT IS ASKED OF A SITE

-- the changes of a request to the replica of a site that keeps at most so many cells
abbrev pub changes_by_request : ℕ → ℕ → ReplicaRequest → List Operation → List VisibleChange
changes_by_request site limit (Offer op) set = changes_if_new (answer_within limit op set) op (cells_of set)
changes_by_request site limit (Make drafts) set =
    if fit site limit drafts set then changes_in_turn (operations_of site drafts set) set else []

abbrev pub changes_by_requests : ℕ → ℕ → List ReplicaRequest → List Operation → List VisibleChange
changes_by_requests site limit [] set = []
changes_by_requests site limit (request ∷ requests) set =
    changes_by_request site limit request set ++ changes_by_requests site limit requests (after_request site limit request set)
