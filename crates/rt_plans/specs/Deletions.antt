-- Deletion (Tk text manual, "delete"): the document without what it takes, and the operations that make it.
use Rattle.std.specs.Prelude.{ℕ, ◌+◌, ◌-◌, ◌&&◌, nat_le, Bool, List, [], ◌++◌, length, Option, Some, None, option_and_then, option_map, slice_get, unwrap_or, if◌then◌else◌}
use Rattle.rt_marks.specs.Marks.{marks_left}
use Rattle.rt_ops.specs.Operations.{Body}
use Rattle.rt_store.specs.Cells.{visible_of}
use Rattle.rt_store.specs.Shown.{TaggedCell}
use Rattle.rt_tags.specs.States.{names_on}
use Rattle.rt_plans.specs.declared.range.Range.{Range}
use Rattle.rt_plans.specs.DocValue.{DocValue}
use Rattle.rt_plans.specs.RemovalDrafts.{removal_drafts}
use Rattle.rt_plans.specs.Removals.{gone_at, is_covered, is_removed, operations_for, span_count, stamps_at}
use Rattle.rt_plans.specs.TagDrafts.{newline_drafts}
use Rattle.rt_plans.specs.TagWrites.{bared}

-- what a deletion takes: the characters at some places, and where it was to take a newline that stays, that newline's place, for it
-- loses its tags
pub record Loss : Type 0 where
  pub places : ℕ → Bool
  pub newline : Option ℕ

-- places of a stretch of the text, which begins at a place, as places of the text
abbrev pub places_from : ℕ → (ℕ → Bool) → ℕ → Bool
places_from begin test place = nat_le begin place && test (place - begin)

-- What a deletion of ranges takes of a stretch of the text, given by its characters and the place where they begin: the stretch's
-- last newline stays.
abbrev pub loss_in : List ℕ → ℕ → List Range → Loss
loss_in text begin ranges =
    let last = length text - 1 in
    record {
      places = places_from begin (is_removed text ranges);
      newline = if is_covered ranges last then Some (begin + last) else None;
    }

-- the newline that stays
abbrev pub newline_left : DocValue → Loss → Option TaggedCell
newline_left doc loss = option_and_then (slice_get (visible_of doc.cells)) loss.newline

-- the document without the characters at some places: their cells are gone, with the counts that this takes, and the marks move
-- for that
abbrev pub without_places : DocValue → (ℕ → Bool) → DocValue
without_places doc removed = record doc {
  cells = gone_at removed 0 doc.cells;
  count = doc.count + operations_for (span_count (stamps_at removed 0 doc.cells));
  marks = marks_left removed doc.marks;
}

-- the document without what a deletion takes
abbrev pub without_text : DocValue → Loss → DocValue
without_text doc loss =
    let left = without_places doc loss.places in
    unwrap_or (option_map (λ cell. bared left cell.stamp (names_on cell.state)) (newline_left doc loss)) left

-- The operations: the Deletes of the characters that go, of at most so many spans each, and then one Tag for each shared tag of the
-- newline that stays, by their bytes.
abbrev pub delete_drafts : ℕ → DocValue → Loss → List Body
delete_drafts most doc loss =
    removal_drafts most loss.places doc.cells
    ++ unwrap_or (option_map (λ cell. newline_drafts cell.stamp (names_on cell.state)) (newline_left doc loss)) []
