-- Groups of actions that are reverted in a document as a widget shows it (Tk text manual, "The undo mechanism").
use Rattle.std.specs.Prelude.{List, [], ◌∷◌, Option, slice_get, unwrap_or}
use Rattle.rt_marks.specs.Marks.{Mark}
use Rattle.rt_stamps.specs.declared.fault.Fault.{Fault}
use Rattle.rt_stamps.specs.Words.{Word}
use Rattle.rt_plans.specs.DocValue.{DocValue}
use Rattle.rt_undo.specs.Actions.{Action}
use Rattle.rt_revert.specs.Reverting.{reversion, reverted}
use Rattle.rt_text.specs.Changes.{limits_after}
use Rattle.rt_text.specs.Editing.{edit_check}
use Rattle.rt_text.specs.Widgets.{WidgetValue, ViewValue, each_widget}

-- where a mark comes to stand when a group is reverted: where it would as the only mark of the document
abbrev pub mark_reverted : DocValue → List (Action (List Word)) → Mark → Mark
mark_reverted doc group m = unwrap_or (slice_get (reversion (record doc { marks = m ∷ [] }) group).doc.marks 0) m

-- The own marks of each widget move with the text as all marks do, and its limits follow the newlines that come back; what is selected
-- stays so, and no character that comes back is selected.
abbrev pub widget_reverted : DocValue → List (Action (List Word)) → WidgetValue → WidgetValue
widget_reverted doc group own = record own {
  insert = mark_reverted doc group own.insert;
  current = mark_reverted doc group own.current;
  limits = limits_after (reversion doc group).returns own.limits;
}

abbrev pub view_reverted : ViewValue → List (Action (List Word)) → ViewValue
view_reverted view group = each_widget (widget_reverted view.doc group) (record view { doc = reverted view.doc group })

-- why a group can't be reverted: its counts don't fit, or the cells of the document that it leaves
abbrev pub reversion_check : DocValue → List (Action (List Word)) → Option Fault
reversion_check doc group = edit_check doc (reverted doc group)
