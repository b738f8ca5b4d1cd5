-- What operations do to cells when they come at once: first the Inserts and Deletes, one after the other, then the Tags, so
-- that each cell comes into one new state. Operations are listed by rising stamp, the oldest first.
use Rattle.std.specs.Prelude.{◌≡◌, ℕ, ◌<◌, All, true, false, List, [], ◌∷◌, ◌++◌, map, filter, Option, Some, None, if◌then◌else◌}
use Rattle.std.specs.List.{AllByRecursion, take_while}
use Rattle.rt_stamps.specs.declared.stamp.Stamp.{Stamp}
use Rattle.rt_stamps.specs.Stamps.{is_before, is_same}
use Rattle.rt_ops.specs.Operations.{Operation, Body, Insert, Delete, Tag, has_bad_stamp, stamp_of}
use Rattle.rt_store.specs.Cells.{cell_of, stamps_of, with_state}
use Rattle.rt_store.specs.declared.cell.Cell.{Cell}
use Rattle.rt_store.specs.Shown.{TaggedCell}
use Rattle.rt_store.specs.Spans.{is_among, precedes}
use Rattle.rt_tags.specs.declared.states.TagEntry.{TagEntry}
use Rattle.rt_tags.specs.States.{IsState, IsTag, TagStates, Write, state_at, writes_at}
use Rattle.rt_tags.specs.Writers.{state_after}
use Rattle.rt_rga.specs.Cells.{writes_by}
use Rattle.rt_rga.specs.Changes.{changed_by}
use Rattle.rt_rga.specs.declared.plan.Named.{Named}
use Rattle.rt_rga.specs.declared.plan.Written.{Written}

-- THE TAGS

-- what a Tag writes on a character; other operations have no such write
abbrev pub tag_writes_by : Stamp → Body → Stamp → List Write
tag_writes_by stamp (Insert after tags text) character = []
tag_writes_by stamp (Delete spans) character = []
tag_writes_by stamp (Tag on name spans) character = writes_by stamp (Tag on name spans) character

-- what the Tags among operations write on a character, the oldest first
abbrev pub tag_writes : List Operation → Stamp → List Write
tag_writes [] character = []
tag_writes (op ∷ ops) character = tag_writes_by (stamp_of op) op.body character ++ tag_writes ops character

-- a cell after the Tags
abbrev pub after_tags : List Operation → TaggedCell → TaggedCell
after_tags ops cell = with_state (state_after cell.state (tag_writes ops cell.stamp)) cell

-- THE INSERTS AND DELETES

-- what an Insert or a Delete does to cells; a Tag leaves them
abbrev pub put_by : Stamp → Body → List TaggedCell → List TaggedCell
put_by stamp (Insert after tags text) cells = changed_by stamp (Insert after tags text) cells
put_by stamp (Delete spans) cells = changed_by stamp (Delete spans) cells
put_by stamp (Tag on name spans) cells = cells

-- what the Inserts and Deletes among operations do, one after the other
abbrev pub all_put : List Operation → List TaggedCell → List TaggedCell
all_put [] cells = cells
all_put (op ∷ ops) cells = all_put ops (put_by (stamp_of op) op.body cells)

-- WHICH OPERATIONS

-- each operation is before those that follow it
abbrev pub AreRising : List Operation → Type 0
AreRising [] = Unit {0}
AreRising (op ∷ ops) = AllByRecursion (λ later. is_before (stamp_of op) (stamp_of later) ≡ true) ops × AreRising ops

-- each operation is sound
abbrev pub AreSound : List Operation → Type 0
AreSound ops = AllByRecursion (λ op. has_bad_stamp op ≡ false) ops

-- ON THE WAY

-- an entry of a table on the character of a stamp
abbrev pub named_with : TagEntry → Stamp → Named
named_with entry stamp = record { stamp = stamp; entry = entry }

-- the entries on a character, the oldest first
abbrev pub entries_on : List Named → Stamp → List TagEntry
entries_on named stamp = map (λ n. n.entry) (filter (λ n. is_same n.stamp stamp) named)

-- those of the writes in front that are on a character
abbrev pub entries_in_front : List Named → Stamp → List TagEntry
entries_in_front named stamp = map (λ n. n.entry) (take_while (λ n. is_same n.stamp stamp) named)

-- the entry of a write, if there is one and it is on a character
abbrev pub entry_if : Stamp → Option Named → Option TagEntry
entry_if stamp None = None
entry_if stamp (Some n) = if is_same n.stamp stamp then Some n.entry else None

-- by the sites and counts of the stamps, so that entries on one character stand together
abbrev pub AreByStamp : List Named → Type 0
AreByStamp [] = Unit {0}
AreByStamp (n ∷ named) = AllByRecursion (λ later. precedes later.stamp n.stamp ≡ false) named × AreByStamp named

-- new cells stand by rising counts
abbrev pub CountsRise : List (Cell ℕ) → Type 0
CountsRise [] = Unit {0}
CountsRise (cell ∷ cells) = AllByRecursion (λ later. cell.stamp.count < later.stamp.count) cells × CountsRise cells

-- a copy of one of some cells is in the state of that cell after the entries on its character
pub record HasEntries (old : TagStates) (named : List Named) (cells : List (Cell ℕ)) (new : TagStates) (copy : Cell ℕ) : Type 0 where
  pub given : IsState new copy.state
  pub written : (cell : Cell ℕ) → cell_of cells copy.stamp ≡ Some cell
      → state_at new copy.state ≡ state_after (state_at old cell.state) (writes_at old (entries_on named copy.stamp))

-- one of the copies is that of a stamp, if one of the cells is
abbrev pub IsCopied : List (Cell ℕ) → List (Cell ℕ) → Stamp → Type 0
IsCopied cells copies stamp = is_among (stamps_of cells) stamp ≡ true → is_among (stamps_of copies) stamp ≡ true

-- what a state came into by entries
pub record WrittenIsGiven (table : TagStates) (last : Written) : Type 0 where
  pub before : IsState table last.before
  pub tags : All (λ e. IsTag table e.tag) last.entries.items
  pub after : IsState table last.after
  pub written : state_at table last.after ≡ state_after (state_at table last.before) (writes_at table last.entries.items)
