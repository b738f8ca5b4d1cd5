-- What the plan of a replacement stands for.
use Rattle.std.specs.Prelude.{◌≡◌, ℕ, ◌-◌, List, [], ◌∷◌, ◌++◌, map, min}
use Rattle.rt_stamps.specs.declared.limits.TheConstants.{MOST_CHARACTERS, MOST_SPANS}
use Rattle.rt_stamps.specs.Words.{Word}
use Rattle.rt_ops.specs.Edits.{body_of}
use Rattle.rt_ops.specs.Operations.{Body}
use Rattle.rt_plans.specs.declared.range.Range.{Range}
use Rattle.rt_plans.specs.Deletions.{Loss, delete_drafts, loss_in}
use Rattle.rt_plans.specs.DocValue.{left_stamp}
use Rattle.rt_plans.specs.InsertionDrafts.{insertion_drafts}
use Rattle.rt_plans.specs.InsertionPlans.{Plans}
use Rattle.rt_plans.specs.Insertions.{Insertion, Piece, insertion_of, left_neighbour}
use Rattle.rt_text.specs.declared.doc.replacing.Replacement.{Replacement}
use Rattle.rt_text.specs.Commands.{none_inserted, right_behind, without_ranges}
use Rattle.rt_text.specs.Widgets.{ViewValue, begin_of, in_text, length_shown, selections_of, cells_shown, text_shown}

-- what the deletion of a range takes
abbrev pub loss_at : ViewValue → Range → Loss
loss_at view range = loss_in (text_shown view) (begin_of view) (range ∷ [])

-- an insertion before the character at a place, and its operations
abbrev pub insertion_at : ViewValue → ℕ → List Piece → Word → Insertion
insertion_at view place pieces rest =
    insertion_of view.doc.site (left_neighbour (cells_shown view) place) (right_behind view place pieces) pieces rest (none_inserted view)

abbrev pub drafts_at : ViewValue → ℕ → List Piece → Word → List Body
drafts_at view place pieces rest =
    insertion_drafts MOST_CHARACTERS view.doc.site (left_stamp view.doc.cells (in_text view place)) (left_neighbour (cells_shown view) place)
    (right_behind view place pieces) pieces rest (none_inserted view)

-- what the deletion of a range leaves
abbrev pub left_by : ViewValue → Range → ViewValue
left_by view range = without_ranges view (range ∷ [])

-- The plan of a replacement has the operations of the deletion and those of the insertion into what that leaves, and comes to what
-- the insertion comes to.
pub record PlansReplacement (view : ViewValue) (range : Range) (pieces : List Piece) (rest : Word) (r : Replacement) : Type 0 where
  pub place : r.place ≡ min range.from (length_shown (left_by view range) - 1)
  pub drafts : map body_of r.drafts.items ≡ delete_drafts MOST_SPANS view.doc (loss_at view range) ++ drafts_at (left_by view range) r.place pieces rest
  pub plan : Plans r.plan (left_by view range).own.sel (selections_of (left_by view range).others) (left_by view range).doc.tags
      (insertion_at (left_by view range) r.place pieces rest)
