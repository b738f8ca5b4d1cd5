-- What reverting actions has come to, in the working copy of a text and beside it.
use Rattle.std.specs.Prelude.{◌≡◌, ℕ, ◌+◌, ◌<◌, ◌≤◌, List, true, false, length, map}
use Rattle.std.specs.List.{AllByRecursion, list_all}
use Rattle.rt_stamps.specs.declared.limits.TheConstants.{GREATEST_COUNT, MOST_CELLS}
use Rattle.rt_stamps.specs.declared.stamp.Span.{Span}
use Rattle.rt_stamps.specs.declared.stamp.Stamp.{Stamp}
use Rattle.rt_stamps.specs.declared.stamp.TheConstants.{FINAL}
use Rattle.rt_stamps.specs.Stamps.{is_same}
use Rattle.rt_stamps.specs.Words.{Word, as_words}
use Rattle.rt_ops.specs.Edits.{body_of}
use Rattle.rt_ops.specs.Rules.{is_name}
use Rattle.rt_store.specs.declared.cell.Cell.{Cell}
use Rattle.rt_store.specs.Cells.{AreDistinct, map_state}
use Rattle.rt_store.specs.Shown.{TaggedCell, shown}
use Rattle.rt_store.specs.Tagged.{AreStates}
use Rattle.rt_tags.specs.States.{TagStates, names_on}
use Rattle.rt_plans.specs.Insertions.{all_listed}
use Rattle.rt_rga.specs.OneOrMany.{items_in}
use Rattle.rt_undo.specs.declared.action.RemovedSpan.{RemovedSpan}
use Rattle.rt_undo.specs.Actions.{group_of}
use Rattle.rt_undo.specs.Renames.{is_moved, now_of}
use Rattle.rt_revert.specs.declared.plan.Return.{Return}
use Rattle.rt_revert.specs.declared.progress.Progress.{Progress}
use Rattle.rt_revert.specs.Plans.{AreGiven, AreUpTo, IsTextChange, marks_after, named_group}
use Rattle.rt_revert.specs.Portions.{AreOffsets, AreSmall, Portion, only}
use Rattle.rt_revert.specs.Reverting.{Reversion, stamp_after}

-- cells with the names of their tags; cells that look alike have the same ones
abbrev pub with_names : List TaggedCell → List (Cell (List Word))
with_names cells = map (map_state names_on) cells

pub record LookAlike (xs ys : List TaggedCell) : Type 0 where
  pub names : with_names xs ≡ with_names ys

-- the spans of removed characters
abbrev pub spans_of : List RemovedSpan → List Span
spans_of removed = map (λ r. r.span) removed

-- a character that came back isn't the final newline
abbrev pub IsOther : Return → Type 0
IsOther r = is_same r.newer FINAL ≡ false

-- a working copy of a text, whose states a table gave out
pub record IsCopy (table : TagStates) (cells : List (Cell ℕ)) (count : ℕ) : Type 0 where
  pub states : AreStates table cells
  pub distinct : AreDistinct cells
  pub few : length cells ≤ MOST_CELLS
  pub older : AreUpTo count cells

-- what a plan tells stays: its operations with the greatest count, the changes of the text, the tags, who came back, the actions
pub record TellsTheSame (old new : Progress) : Type 0 where
  pub drafts : items_in new.texts.drafts ≡ items_in old.texts.drafts
  pub count : new.texts.count ≡ old.texts.count
  pub changes : new.changes.items ≡ old.changes.items
  pub names : new.names.items ≡ old.names.items
  pub returns : new.returns.items ≡ old.returns.items
  pub actions : new.actions.items ≡ old.actions.items

-- what is known beside it: moved are only stamps up to the greatest count, to those that the characters have now
pub record IsUnderWay (table : TagStates) (plan : Progress) : Type 0 where
  pub count : plan.texts.count ≤ GREATEST_COUNT
  pub moved : (s : Stamp) → is_moved plan.renames s ≡ true → s.count ≤ plan.texts.count
  pub now : (s : Stamp) → now_of plan.renames s ≡ stamp_after plan.returns.items s
  pub apart : AllByRecursion IsOther plan.returns.items
  pub names : list_all is_name (as_words plan.names.items) ≡ true
  pub given : AreGiven table (group_of plan.actions.items)
  pub offsets : AreSmall plan.offsets

-- The working copy has some of the document's cells, and all that are newer; the plan knows how many others stand before each.
pub record KnowsPortion (plan : Progress) (part : Portion) (r : Reversion) : Type 0 where
  pub newer : (s : Stamp) → plan.texts.count < s.count → part.has s ≡ true
  pub back : AllByRecursion (λ (x : Return). part.has x.newer ≡ true) r.returns
  pub offsets : AreOffsets plan.offsets part.has r.doc.cells
  pub distinct : AreDistinct r.doc.cells
  pub older : AreUpTo plan.texts.count r.doc.cells
  pub few : length r.doc.cells ≤ MOST_CELLS + plan.texts.count

-- both are what a reversion in a document of a site has come to
pub record IsSoFar (table : TagStates) (number : ℕ) (copy : List (Cell ℕ)) (plan : Progress) (part : Portion) (r : Reversion) : Type 0 where
  pub cells : LookAlike (map (shown table) copy) (only part.has r.doc.cells)
  pub within : KnowsPortion plan part r
  pub site : r.doc.site ≡ number
  pub count : r.doc.count ≡ plan.texts.count
  pub drafts : r.drafts ≡ map body_of (items_in plan.texts.drafts)
  pub returns : r.returns ≡ plan.returns.items
  pub actions : r.actions ≡ named_group table (group_of plan.actions.items)
  pub changes : AllByRecursion IsTextChange plan.changes.items
  pub marks : r.doc.marks ≡ marks_after plan.changes.items part.doc.marks
  pub tags : r.doc.tags ≡ all_listed (as_words plan.names.items) part.doc.tags

-- they are, and what is left to do leads to an end
pub record Reaches (table : TagStates) (number : ℕ) (copy : List (Cell ℕ)) (plan : Progress) (part : Portion) (rest : Reversion → Reversion) (end : Reversion)
    : Type 0 where
  pub so_far : Reversion
  pub stands : IsSoFar table number copy plan part so_far
  pub leads : rest so_far ≡ end
