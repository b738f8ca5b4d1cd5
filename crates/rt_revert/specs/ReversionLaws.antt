-- What the operations of a reverted group do to the cells of a history, and what they count.
use Rattle.std.specs.Prelude.{◌≡◌, ℕ, ◌+◌, ◌<◌, ◌≤◌, List, false, length}
use Rattle.std.specs.List.{AllByRecursion}
use Rattle.rt_stamps.specs.declared.limits.TheConstants.{GREATEST_COUNT}
use Rattle.rt_stamps.specs.declared.stamp.TheConstants.{FINAL}
use Rattle.rt_stamps.specs.Stamps.{is_same}
use Rattle.rt_stamps.specs.Words.{Word}
use Rattle.rt_ops.specs.Operations.{Operation}
use Rattle.rt_store.specs.Spans.{is_among}
use Rattle.rt_rga.specs.Drafts.{with_drafts}
use Rattle.rt_rga.specs.Histories.{IsHistory}
use Rattle.rt_rga.specs.Requests.{MayBeMade, characters_in_all}
use Rattle.rt_plans.specs.DraftLaws.{AreTagNames, IsDocument}
use Rattle.rt_plans.specs.DocValue.{DocValue}
use Rattle.rt_undo.specs.Actions.{Action, Removed}
use Rattle.rt_revert.specs.Reverting.{reversion, reverted_group}

-- a removed character isn't the final newline, and its tags are names as an operation lists them
pub record MayReturn (removed : Removed (List Word)) : Type 0 where
  pub stamp : is_same removed.stamp FINAL ≡ false
  pub tags : AreTagNames removed.tags

-- an action neither put the final newline in nor took it away, and its tags are such names
pub record MayRevert (action : Action (List Word)) : Type 0 where
  pub inserted : is_among action.inserted FINAL ≡ false
  pub removed : AllByRecursion MayReturn action.removed

abbrev pub AllMayRevert : List (Action (List Word)) → Type 0
AllMayRevert group = AllByRecursion MayRevert group

-- Where the counts fit, the operations may be made.
abbrev pub ReversionMayBeMade : Type 0
ReversionMayBeMade =
    (site : ℕ) (log : List Operation) (doc : DocValue) (group : List (Action (List Word))) → 0 < site → IsHistory log → IsDocument site log doc
    → AllMayRevert group → (reversion doc group).doc.count ≤ GREATEST_COUNT → MayBeMade site log (reversion doc group).drafts

-- Then a document with the cells of a history has afterwards those of the history with the operations, and its greatest count.
abbrev pub ReversionIsMade : Type 0
ReversionIsMade =
    (site : ℕ) (log : List Operation) (doc : DocValue) (group : List (Action (List Word))) → 0 < site → IsHistory log → IsDocument site log doc
    → AllMayRevert group → (reversion doc group).doc.count ≤ GREATEST_COUNT
    → IsDocument site (with_drafts site (reversion doc group).drafts log) (reversion doc group).doc

-- There is one cell more for each character that the operations insert.
abbrev pub ReversionHasNewCells : Type 0
ReversionHasNewCells =
    (doc : DocValue) (group : List (Action (List Word)))
    → length doc.cells + characters_in_all (reversion doc group).drafts ≡ length (reversion doc group).doc.cells

-- What is asked of a group holds of the one for the other stack.
abbrev pub ReversionIsSound : Type 0
ReversionIsSound =
    (site : ℕ) (log : List Operation) (doc : DocValue) (group : List (Action (List Word))) → 0 < site → IsHistory log → IsDocument site log doc
    → AllMayRevert group → (reversion doc group).doc.count ≤ GREATEST_COUNT → AllMayRevert (reverted_group doc group)
