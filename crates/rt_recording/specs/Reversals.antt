-- Undo and redo of what a site recorded (Tk text manual, "The undo mechanism").
use Rattle.std.specs.Prelude.{List, Result, Err}
use Rattle.std.specs.Option.{option_map_or}
use Rattle.rt_stamps.specs.declared.fault.Fault.{Fault}
use Rattle.rt_stamps.specs.declared.fault.Fault.TheVariants.{NothingToRedo, NothingToUndo}
use Rattle.rt_stamps.specs.Outcomes.{unless}
use Rattle.rt_stamps.specs.Words.{Word}
use Rattle.rt_undo.specs.Actions.{Action}
use Rattle.rt_undo.specs.Undo.{UndoHistory, next_redo, next_undo, redo_done, renamed_by, undo_done}
use Rattle.rt_revert.specs.Reverting.{reversion, reverted_group, stamp_after}
use Rattle.rt_text.specs.Reversions.{reversion_check, view_reverted}
use Rattle.rt_text.specs.Widgets.{ViewValue}

-- A view after a group was reverted, and the history, by the stamps that characters have then, where `done` moves the group to the
-- other stack. It is refused where the clock can't go as far, or where there would be too many cells.
abbrev pub reverted_by : (List (Action (List Word)) → UndoHistory (List Word) → UndoHistory (List Word)) → ViewValue → UndoHistory (List Word)
    → List (Action (List Word)) → Result (ViewValue × UndoHistory (List Word)) Fault
reverted_by done view history group =
    unless (reversion_check view.doc group)
    (view_reverted view group, done (reverted_group view.doc group) (renamed_by (stamp_after (reversion view.doc group).returns) history))

-- edit undo: the last group of the undo stack is reverted
abbrev pub group_undone : ViewValue → UndoHistory (List Word) → Result (ViewValue × UndoHistory (List Word)) Fault
group_undone view history = option_map_or (reverted_by undo_done view history) (next_undo history) (Err NothingToUndo)

-- edit redo: the group that was undone last
abbrev pub group_redone : ViewValue → UndoHistory (List Word) → Result (ViewValue × UndoHistory (List Word)) Fault
group_redone view history = option_map_or (reverted_by redo_done view history) (next_redo history) (Err NothingToRedo)
