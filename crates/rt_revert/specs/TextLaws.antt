-- What the text is after an action was reverted.
use Rattle.std.specs.Prelude.{◌≡◌, ℕ, ◌<◌, Bool, true, false, List, [], ◌∷◌, map}
use Rattle.rt_stamps.specs.declared.stamp.Stamp.{Stamp}
use Rattle.rt_stamps.specs.Words.{Word}
use Rattle.rt_ops.specs.Operations.{Operation}
use Rattle.rt_store.specs.Cells.{stamps_of, text_of}
use Rattle.rt_store.specs.Spans.{is_among}
use Rattle.rt_rga.specs.Histories.{IsHistory}
use Rattle.rt_rga.specs.Texts.{tagged_text}
use Rattle.rt_plans.specs.Deletions.{without_places}
use Rattle.rt_plans.specs.DraftLaws.{IsDocument}
use Rattle.rt_plans.specs.DocValue.{DocValue}
use Rattle.rt_plans.specs.Removals.{cells_at, left_at}
use Rattle.rt_undo.specs.Actions.{Action}
use Rattle.rt_revert.specs.Reverting.{are_at, as_removed, reverted, reverted_group}

-- An insertion, whatever was done since: the text is what stands beside those of its characters that are still visible.
abbrev pub InsertionIsTakenBack : Type 0
InsertionIsTakenBack =
    (doc : DocValue) (action : Action (List Word)) → action.removed ≡ []
    → text_of (reverted doc (action ∷ [])).cells ≡ left_at (are_at action.inserted doc.cells) 0 (text_of doc.cells)

-- A removal, by an action none of whose own stamps a cell of the text has: the text is again what it was, each character with
-- its tags.
abbrev pub RemovalIsTakenBack : Type 0
RemovalIsTakenBack =
    (site : ℕ) (log : List Operation) (doc : DocValue) (places : ℕ → Bool) (action : Action (List Word)) → 0 < site → IsHistory log
    → IsDocument site log doc → ((s : Stamp) → is_among (stamps_of doc.cells) s ≡ true → is_among action.inserted s ≡ false)
    → action.removed ≡ map as_removed (cells_at places 0 doc.cells)
    → tagged_text (reverted (without_places doc places) (action ∷ [])).cells ≡ tagged_text doc.cells

-- An insertion that was undone, and is redone: the text is again what it was, each character with its tags.
abbrev pub InsertionIsRedone : Type 0
InsertionIsRedone =
    (site : ℕ) (log : List Operation) (doc : DocValue) (action : Action (List Word)) → 0 < site → IsHistory log → IsDocument site log doc
    → action.removed ≡ []
    → tagged_text (reverted (reverted doc (action ∷ [])) (reverted_group doc (action ∷ []))).cells ≡ tagged_text doc.cells
