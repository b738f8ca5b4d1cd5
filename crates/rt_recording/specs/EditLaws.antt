-- What the text is after a recorded edit was undone.
use Rattle.std.specs.Prelude.{◌≡◌, ℕ, ◌<◌, ◌≤◌, List, [], ◌∷◌, map, option_map, reverse, unwrap_or}
use Rattle.rt_stamps.specs.declared.limits.TheConstants.{GREATEST_COUNT}
use Rattle.rt_stamps.specs.Words.{Word}
use Rattle.rt_ops.specs.Operations.{Operation}
use Rattle.rt_tags.specs.States.{names_on}
use Rattle.rt_rga.specs.Histories.{IsHistory}
use Rattle.rt_rga.specs.Texts.{tagged_text}
use Rattle.rt_plans.specs.declared.range.Range.{Range}
use Rattle.rt_plans.specs.Deletions.{loss_in, newline_left}
use Rattle.rt_plans.specs.DraftLaws.{IsDocument}
use Rattle.rt_plans.specs.DocValue.{DocValue}
use Rattle.rt_plans.specs.Insertions.{Piece}
use Rattle.rt_undo.specs.Actions.{Action}
use Rattle.rt_undo.specs.declared.action.Kind.TheVariants.{Delete, Insert, Replace}
use Rattle.rt_revert.specs.Reverting.{reversion, reverted}
use Rattle.rt_revert.specs.ReversionLaws.{AllMayRevert}
use Rattle.rt_text.specs.Commands.{lost_in, with_pieces_at, with_range_replaced, without_ranges}
use Rattle.rt_text.specs.Widgets.{ViewValue, begin_of, text_shown}
use Rattle.rt_recording.specs.Edits.{edit_action}
use Rattle.rt_recording.specs.Settled.{AreGoneOnce, taken_by}

-- the tags that a deletion takes off the last newline that the widget shows, which stays
abbrev pub tags_lost : ViewValue → List Range → List Word
tags_lost view ranges =
    let loss = loss_in (text_shown view) (begin_of view) ranges in unwrap_or (option_map (λ cell. names_on cell.state) (newline_left view.doc loss)) []

-- Ranges are deleted, with the action that `delete` records of it, and this is undone at once: the text is again what it was, each
-- character with its tags. It is said of deletions that take no tags off the last newline.
abbrev pub DeletionIsTakenBack : Type 0
DeletionIsTakenBack =
    (site : ℕ) (log : List Operation) (view : ViewValue) (ranges : List Range) → 0 < site → IsHistory log
    → IsDocument site log view.doc → tags_lost view ranges ≡ []
    → let new = (without_ranges view ranges).doc in
    tagged_text (reverted new (edit_action Delete view.doc new (lost_in view ranges) ∷ [])).cells ≡ tagged_text view.doc.cells

-- text to insert, in pieces with lists of tags, and then characters without one, before the character at a place
pub record Put : Type 0 where
  pub place : ℕ
  pub pieces : List Piece
  pub rest : Word

-- a text once it is inserted; and once several are, one after the other, each into what the one before it has left
abbrev pub after_put : ViewValue → Put → ViewValue
after_put view put = with_pieces_at view put.place put.pieces put.rest

abbrev pub after_puts : ViewValue → List Put → ViewValue
after_puts view [] = view
after_puts view (put ∷ puts) = after_puts (after_put view put) puts

-- the actions that `insert` records of them, the oldest first, as a group of the undo stack has them; for an insertion of no
-- characters, of which nothing is recorded, one that put none in
abbrev pub put_actions : ViewValue → List Put → List (Action (List Word))
put_actions view [] = []
put_actions view (put ∷ puts) = let new = after_put view put in edit_action Insert view.doc new.doc [] ∷ put_actions new puts

-- Texts are inserted one after the other, wherever each goes, with the actions that `insert` records of them, and these are undone
-- at once, as one group: the text is again what it was, each character with its tags.
abbrev pub InsertedTextsAreTakenBack : Type 0
InsertedTextsAreTakenBack =
    (site : ℕ) (log : List Operation) (view : ViewValue) (puts : List Put) → 0 < site → IsHistory log → IsDocument site log view.doc
    → tagged_text (reverted (after_puts view puts).doc (put_actions view puts)).cells ≡ tagged_text view.doc.cells

-- Characters are removed and text is inserted in their stead, with the one action that `replace` records of it, and this is undone at
-- once: the text is again what it was, each character with its tags. It is said of replacements that take no tags off the last newline.
abbrev pub ReplacementIsTakenBack : Type 0
ReplacementIsTakenBack =
    (site : ℕ) (log : List Operation) (view : ViewValue) (range : Range) (pieces : List Piece) (rest : Word) → 0 < site → IsHistory log
    → IsDocument site log view.doc → tags_lost view (range ∷ []) ≡ []
    → let new = (with_range_replaced view range pieces rest).doc in
    tagged_text (reverted new (edit_action Replace view.doc new (lost_in view (range ∷ [])) ∷ [])).cells ≡ tagged_text view.doc.cells

-- Where each character that a group took away was taken once and is gone, and the counts fit, just these come back when it is
-- reverted. They are told by their former stamps, in the order of reverting.
abbrev pub AllComeBack : Type 0
AllComeBack =
    (site : ℕ) (log : List Operation) (doc : DocValue) (group : List (Action (List Word))) → 0 < site → IsHistory log → IsDocument site log doc
    → AllMayRevert group → (reversion doc group).doc.count ≤ GREATEST_COUNT → AreGoneOnce doc.cells (taken_by group)
    → map (λ r. r.former) (reversion doc group).returns ≡ taken_by (reverse group)
