-- The plan of a group that is reverted in a document.
use Rattle.std.specs.Prelude.{◌≡◌, List, map}
use Rattle.rt_rga.specs.OneOrMany.{items_in}
use Rattle.rt_stamps.specs.Words.{Word, as_words}
use Rattle.rt_ops.specs.Edits.{body_of}
use Rattle.rt_tags.specs.States.{TagStates}
use Rattle.rt_plans.specs.DocValue.{DocValue}
use Rattle.rt_plans.specs.Insertions.{all_listed}
use Rattle.rt_undo.specs.Actions.{Action, group_of}
use Rattle.rt_revert.specs.declared.plan.Reversal.{Reversal}
use Rattle.rt_revert.specs.Plans.{marks_after, named_group}
use Rattle.rt_revert.specs.Reverting.{reversion, reverted_group}

-- The operations; the group for the other stack, with states of a table; the characters that came back; the marks after the changes
-- of the text; and the listed tags.
pub record IsPlanOf (table : TagStates) (doc : DocValue) (group : List (Action (List Word))) (plan : Reversal) : Type 0 where
  pub drafts : map body_of (items_in plan.drafts) ≡ (reversion doc group).drafts
  pub actions : named_group table (group_of plan.actions.items) ≡ reverted_group doc group
  pub returns : plan.returns.items ≡ (reversion doc group).returns
  pub marks : marks_after plan.changes.items doc.marks ≡ (reversion doc group).doc.marks
  pub tags : all_listed (as_words plan.names.items) doc.tags ≡ (reversion doc group).doc.tags
