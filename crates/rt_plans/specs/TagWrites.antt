-- Tag operations: which characters they name, under which stamps, and what they leave on them.
use Rattle.std.specs.Prelude.{◌≡◌, ℕ, ◌+◌, ◌/◌, ◌&&◌, not, Bool, true, false, List, [], ◌∷◌, length, map, filter, All, Option, option_map, slice_get, unwrap_or, if◌then◌else◌}
use Rattle.std.specs.List.{list_any}
use Rattle.std.specs.Str.{bytes_eq}
use Rattle.rt_stamps.specs.declared.limits.TheConstants.{MOST_SPANS}
use Rattle.rt_stamps.specs.declared.stamp.Stamp.{Stamp}
use Rattle.rt_stamps.specs.Stamps.{is_same}
use Rattle.rt_stamps.specs.Words.{Word}
use Rattle.rt_tags.specs.States.{Write, is_on, write_of, written}
use Rattle.rt_tags.specs.Tags.{sel, with_name, without}
use Rattle.rt_plans.specs.DocValue.{DocValue}
use Rattle.rt_store.specs.Shown.{TaggedCell}
use Rattle.rt_store.specs.Cells.{stamps_of}
use Rattle.rt_plans.specs.Removals.{cells_at, span_count, operations_for}
use Rattle.rt_store.specs.Spans.{precedes, next_stamp, is_among}

-- a character to put a tag on hasn't it, and one to take it off has it
abbrev pub is_changed : Word → Bool → TaggedCell → Bool
is_changed name on cell = if on then not (is_on name cell.state) else is_on name cell.state

-- the character at a place passes a test
abbrev pub passes_at : {A : Type 0} → (A → Bool) → List A → ℕ → Bool
passes_at test characters place = unwrap_or (option_map test (slice_get characters place)) false

-- the stamps of those characters
abbrev pub changed_stamps : Word → Bool → List TaggedCell → List Stamp
changed_stamps name on cells = stamps_of (filter (is_changed name on) cells)

-- how many spans of some stamps end before a stamp, in the order of sites and counts: a span ends at a stamp whose next
-- isn't among them
abbrev pub spans_before : List Stamp → Stamp → ℕ
spans_before stamps stamp = length (filter (λ last. precedes last stamp && not (list_any (λ other. is_same other (next_stamp last)) stamps)) stamps)

-- An operation names at most MOST_SPANS spans, in the order of sites and counts: so many operations come before the one
-- that names a stamp.
abbrev pub operation_of : List Stamp → Stamp → ℕ
operation_of stamps stamp = spans_before stamps stamp / MOST_SPANS

-- what the operation that names a stamp writes, where the operations have the counts after one
abbrev pub tag_write : ℕ → ℕ → Word → Bool → List Stamp → Stamp → Write
tag_write site count name on stamps stamp = record { name = name; writer = record { count = count + 1 + operation_of stamps stamp; site = site }; on = on }

-- a cell after the operations that name some stamps
abbrev pub cell_with_tag : ℕ → ℕ → Word → Bool → List Stamp → TaggedCell → TaggedCell
cell_with_tag site count name on stamps cell =
    if is_among stamps cell.stamp then record cell { state = written (tag_write site count name on stamps cell.stamp) cell.state } else cell

-- a document after a tag was put on the characters of some stamps, or taken off: each operation takes a count
abbrev pub with_tag : DocValue → Word → Bool → List Stamp → DocValue
with_tag doc name on stamps = record doc {
  cells = map (cell_with_tag doc.site doc.count name on stamps) doc.cells;
  count = doc.count + operations_for (span_count stamps);
}

-- a document after a tag was put on the characters at some places, or taken off: only those are named that the operation changes
abbrev pub with_tag_at : DocValue → (ℕ → Bool) → Bool → Word → DocValue
with_tag_at doc places on name = with_tag doc name on (changed_stamps name on (cells_at places 0 doc.cells))

-- several tags, one after the other
abbrev pub with_tags_at : DocValue → (ℕ → Bool) → Bool → List Word → DocValue
with_tags_at doc places on [] = doc
with_tags_at doc places on (name ∷ names) = with_tags_at (with_tag_at doc places on name) places on names

-- tags taken off one character, one after the other
abbrev pub bared : DocValue → Stamp → List Word → DocValue
bared doc stamp [] = doc
bared doc stamp (name ∷ names) = bared (with_tag doc name false (stamp ∷ [])) stamp names

-- a tag that is put on is listed, a new one with the highest priority, also where no character gets it
abbrev pub listed_if : Bool → Word → DocValue → DocValue
listed_if true name doc = record doc { tags = with_name name doc.tags }
listed_if false name doc = doc

-- tags taken off all characters and no longer listed; `sel` is passed over
abbrev pub without_tag : DocValue → Word → DocValue
without_tag doc name =
    if bytes_eq name sel then doc
    else let off = with_tag_at doc (λ _. true) false name in record off { tags = without name off.tags }

abbrev pub without_tags : DocValue → List Word → DocValue
without_tags doc [] = doc
without_tags doc (name ∷ names) = without_tags (without_tag doc name) names

-- WHAT IS ON AFTERWARDS

-- a tag is on the characters of some stamps, or off them, as is asked
abbrev pub AreTagged : Word → Bool → List Stamp → List TaggedCell → Type 0
AreTagged name on stamps cells = All (λ cell. is_among stamps cell.stamp ≡ true → is_on name cell.state ≡ on) cells

-- the cells that have none of some stamps
abbrev pub cells_but : List Stamp → List TaggedCell → List TaggedCell
cells_but stamps cells = filter (λ cell. not (is_among stamps cell.stamp)) cells

-- the cells, gone ones too, but the visible ones at some places; the first visible one stands at this place
abbrev pub cells_beside : (ℕ → Bool) → ℕ → List TaggedCell → List TaggedCell
cells_beside places place [] = []
cells_beside places place (cell ∷ cells) =
    if cell.gone then cell ∷ cells_beside places place cells
    else if places place then cells_beside places (place + 1) cells
    else cell ∷ cells_beside places (place + 1) cells

-- the last write of a tag on each character, if there is one
abbrev pub last_writes : Word → List TaggedCell → List (Option Write)
last_writes name cells = map (λ cell. write_of name cell.state) cells
