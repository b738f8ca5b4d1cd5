-- Undo in a document, and redo (Tk text manual, "The undo mechanism"): actions are reverted by the stamps of their characters, in
-- the place of positions.
use Rattle.std.specs.Prelude.{ℕ, ◌+◌, ◌++◌, Bool, false, List, [], ◌∷◌, Option, None, Some, drop, filter, length, map, option_and_then, option_map, reverse, slice_get, unwrap_or, if◌then◌else◌}
use Rattle.rt_stamps.specs.declared.limits.TheConstants.{MOST_CHARACTERS, MOST_SPANS}
use Rattle.rt_stamps.specs.declared.stamp.Stamp.{Stamp}
use Rattle.rt_stamps.specs.Words.{Word}
use Rattle.rt_marks.specs.Marks.{marks_inserted}
use Rattle.rt_ops.specs.Operations.{Body}
use Rattle.rt_store.specs.declared.cell.Cell.{Cell}
use Rattle.rt_store.specs.Cells.{after_element, cell_of, visible_before, visible_of}
use Rattle.rt_store.specs.Shown.{TaggedCell}
use Rattle.rt_store.specs.Spans.{is_among}
use Rattle.rt_tags.specs.States.{names_on}
pub use Rattle.rt_revert.specs.declared.plan.Return.{Return}
use Rattle.rt_plans.specs.Deletions.{without_places}
use Rattle.rt_plans.specs.DocValue.{DocValue, logged, put_after}
use Rattle.rt_plans.specs.InsertionDrafts.{text_drafts}
use Rattle.rt_plans.specs.Insertions.{all_listed, counts_for, tagged_cells}
use Rattle.rt_plans.specs.RemovalDrafts.{removal_drafts}
use Rattle.rt_undo.specs.Actions.{Action, Removed}
use Rattle.rt_undo.specs.Renames.{replaced}
use Rattle.rt_undo.specs.Undo.{with_stamps_in}

-- the stamp that a character has after some came back, one after the other, each under a newer stamp than the one that it had
abbrev pub stamp_after : List Return → Stamp → Stamp
stamp_after [] s = s
stamp_after (r ∷ returns) s = stamp_after returns (replaced r.former r.newer s)

-- What reverting actions has come to: the document; the characters that came back, in turn; the reverted actions, in the order of
-- reverting; and the operations that do this, which the document's log doesn't have yet.
pub record Reversion : Type 0 where
  pub doc : DocValue
  pub returns : List Return
  pub actions : List (Action (List Word))
  pub drafts : List Body

-- nothing was reverted yet
abbrev pub as_it_is : DocValue → Reversion
as_it_is document = record { doc = document; returns = []; actions = []; drafts = [] }

-- CHARACTERS THAT GO

-- the character at a place is one of those of some stamps
abbrev pub are_at : {T : Type 0} → List Stamp → List (Cell T) → ℕ → Bool
are_at stamps cells place = unwrap_or (option_map (λ cell. is_among stamps cell.stamp) (slice_get (visible_of cells) place)) false

-- a character as one that is removed, with the tags that it has
abbrev pub as_removed : TaggedCell → Removed (List Word)
as_removed cell = record { stamp = cell.stamp; tags = names_on cell.state }

-- those of some characters that are still visible, in the order of the text
abbrev pub still_visible : List Stamp → List TaggedCell → List (Removed (List Word))
still_visible stamps cells = map as_removed (filter (λ cell. is_among stamps cell.stamp) (visible_of cells))

-- they go, by the operations of a deletion
abbrev pub with_removal : List Stamp → Reversion → Reversion
with_removal stamps so_far =
    let places = are_at stamps so_far.doc.cells in
    record so_far {
      doc = without_places so_far.doc places;
      drafts = so_far.drafts ++ removal_drafts MOST_SPANS places so_far.doc.cells;
    }

-- CHARACTERS THAT COME BACK

-- the stamp of a document's next character
abbrev pub next_in : DocValue → Stamp
next_in document = record { count = document.count + 1; site = document.site }

-- A character once more, under some tags: a new one, directly after the old one. Marks move for it, and its tags are listed.
abbrev pub with_copy : DocValue → Stamp → List Word → ℕ → DocValue
with_copy document stamp tags ch = record document {
  cells = put_after document.cells stamp (tagged_cells document.site document.count tags (ch ∷ []));
  count = document.count + counts_for tags (ch ∷ []);
  marks = marks_inserted (visible_before document.cells (after_element document.cells stamp)) 1 document.marks;
  tags = all_listed tags document.tags;
}

-- it comes back, by an Insert, and a Tag for each tag that this can't list
abbrev pub with_insertion : Stamp → List Word → ℕ → Reversion → Reversion
with_insertion stamp tags ch so_far = record so_far {
  doc = with_copy so_far.doc stamp tags ch;
  returns = so_far.returns ++ record { former = stamp; newer = next_in so_far.doc } ∷ [];
  drafts = so_far.drafts ++ text_drafts MOST_CHARACTERS so_far.doc.site so_far.doc.count stamp tags (ch ∷ []);
}

-- the cell of a stamp, if its character is gone
abbrev pub gone_cell_of : {T : Type 0} → List (Cell T) → Stamp → Option (Cell T)
gone_cell_of cells stamp = option_and_then (λ cell. if cell.gone then Some cell else None) (cell_of cells stamp)

-- A removed character comes back, if it is gone, behind the cell that it has now: its first one, or where it came back before, the
-- last one.
abbrev pub with_return : Removed (List Word) → Reversion → Reversion
with_return removed so_far =
    let stamp = stamp_after so_far.returns removed.stamp in
    unwrap_or (option_map (λ cell. with_insertion stamp removed.tags cell.ch so_far) (gone_cell_of so_far.doc.cells stamp)) so_far

abbrev pub with_returns : List (Removed (List Word)) → Reversion → Reversion
with_returns [] so_far = so_far
with_returns (removed ∷ more) so_far = with_returns more (with_return removed so_far)

-- ACTIONS

-- the stamps of the characters that came back between
abbrev pub since : Reversion → Reversion → List Stamp
since before after = map (λ r. r.newer) (drop (length before.returns) after.returns)

-- An action is reverted: of the characters that it put in those go that are still visible, and then those that it took away come
-- back, in the order of the text. The reverted action has its number and kind, put in what came back, and took away what went.
abbrev pub with_reverted : Action (List Word) → Reversion → Reversion
with_reverted action so_far =
    let inserted = map (stamp_after so_far.returns) action.inserted in
    let back = with_returns action.removed (with_removal inserted so_far) in
    record back {
      actions = so_far.actions ++ record {
        number = action.number;
        kind = action.kind;
        inserted = since so_far back;
        removed = still_visible inserted so_far.doc.cells;
      } ∷ [];
    }

abbrev pub with_each_reverted : List (Action (List Word)) → Reversion → Reversion
with_each_reverted [] so_far = so_far
with_each_reverted (action ∷ actions) so_far = with_each_reverted actions (with_reverted action so_far)

-- the actions of a group are reverted, from the last to the first
abbrev pub reversion : DocValue → List (Action (List Word)) → Reversion
reversion document group = with_each_reverted (reverse group) (as_it_is document)

-- the document after that, with the operations in its log
abbrev pub reverted : DocValue → List (Action (List Word)) → DocValue
reverted document group = let r = reversion document group in logged document r.drafts r.doc

-- the group for the other stack, under the stamps that the characters have now: so redo is the same act
abbrev pub reverted_group : DocValue → List (Action (List Word)) → List (Action (List Word))
reverted_group document group = let r = reversion document group in with_stamps_in (stamp_after r.returns) r.actions
