-- The way from drafts to operations and to what is kept, as the code goes it. No public clause cites this.
use Rattle.std.specs.Prelude.{◌≡◌, ◌<◌, ◌≤◌, ℕ, ◌+◌, ◌*◌, false, List, [], ◌∷◌, ◌++◌, length, map, take, drop}
use Rattle.rt_stamps.specs.declared.stamp.Stamp.{Stamp}
use Rattle.rt_stamps.specs.declared.stamp.TheConstants.{FINAL, ROOT}
use Rattle.rt_ops.specs.Operations.{Operation, Body, Insert, Delete, Tag, last_of, stamp_of}
use Rattle.rt_oplog.specs.Logs.{with_operation}
use Rattle.rt_store.specs.declared.cell.Cell.{Cell}
use Rattle.rt_store.specs.Cells.{cells_from, IsPlaced, put_at, skip_from}
use Rattle.rt_store.specs.Shown.{TaggedCell}
use Rattle.rt_store.specs.Spans.{gone_in_any, is_in_spans}
use Rattle.rt_tags.specs.Writers.{listed_by, state_after}
use Rattle.rt_rga.specs.Drafts.{next_operation}
use Rattle.rt_rga.specs.Histories.{greatest_last_count}
use Rattle.rt_rga.specs.Requests.{characters_in}

-- Operations are listed here as they are made, the oldest first.

-- each has greater counts than all before it
abbrev pub AreNewest : List Operation → List Operation → Type 0
AreNewest set [] = Unit {0}
AreNewest set (op ∷ ops) = (greatest_last_count set < op.count) × AreNewest (with_operation op set) ops

-- the operations of drafts, from a last count and the site's known end on
abbrev pub operations_from : ℕ → ℕ → ℕ → List Body → List Operation
operations_from site last prev [] = []
operations_from site last prev (draft ∷ drafts) =
    record { count = last + 1; site = site; prev = prev; body = draft } ∷ operations_from site (last_of (last + 1) draft) (last_of (last + 1) draft) drafts

-- a site's next operation, if that is the Insert of one character without tags
abbrev pub next_insert : ℕ → Stamp → ℕ → List Operation → Operation
next_insert site after character set = next_operation site (Insert after [] (character ∷ [])) set

-- the cells of the characters that operations insert
abbrev pub fresh_by : Stamp → Body → List TaggedCell
fresh_by stamp (Insert after tags text) = cells_from stamp.count stamp.site (state_after [] (listed_by ROOT tags)) text
fresh_by stamp (Delete spans) = []
fresh_by stamp (Tag on name spans) = []

abbrev pub fresh_cells : List Operation → List TaggedCell
fresh_cells [] = []
fresh_cells (op ∷ ops) = fresh_by (stamp_of op) op.body ++ fresh_cells ops

-- Kept cells after Inserts and Deletes, one after the other: an Insert puts in the first of the new cells that are left.
abbrev pub put_by_kept : Stamp → Body → List (Cell ℕ) → List (Cell ℕ) → List (Cell ℕ)
put_by_kept stamp (Insert after tags text) new kept = put_at (skip_from kept after stamp) (take (length text) new) kept
put_by_kept stamp (Delete spans) new kept = map (gone_in_any spans) kept
put_by_kept stamp (Tag on name spans) new kept = kept

abbrev pub kept_after : List Operation → List (Cell ℕ) → List (Cell ℕ) → List (Cell ℕ)
kept_after [] new kept = kept
kept_after (op ∷ ops) new kept = kept_after ops (drop (characters_in op.body) new) (put_by_kept (stamp_of op) op.body new kept)

-- how many cuts of runs they take: one where an Insert stands, two for each span of a Delete
abbrev pub cuts_by : Body → ℕ
cuts_by (Insert after tags text) = 1
cuts_by (Delete spans) = 2 * length spans
cuts_by (Tag on name spans) = 0

abbrev pub cuts_of : List Operation → ℕ
cuts_of [] = 0
cuts_of (op ∷ ops) = cuts_by op.body + cuts_of ops

-- what a store asks of an Insert or a Delete, and that there are new cells for it
abbrev pub CanBePut : Stamp → Body → List (Cell ℕ) → List (Cell ℕ) → Type 0
CanBePut stamp (Insert after tags text) new kept = IsPlaced kept after stamp × (length text ≤ length new)
CanBePut stamp (Delete spans) new kept = is_in_spans spans FINAL ≡ false
CanBePut stamp (Tag on name spans) new kept = Unit {0}

-- a store may be asked for several operations, each after those before it
abbrev pub CanAllBePut : List Operation → List (Cell ℕ) → List (Cell ℕ) → Type 0
CanAllBePut [] new kept = Unit {0}
CanAllBePut (op ∷ ops) new kept =
    CanBePut (stamp_of op) op.body new kept × CanAllBePut ops (drop (characters_in op.body) new) (put_by_kept (stamp_of op) op.body new kept)
