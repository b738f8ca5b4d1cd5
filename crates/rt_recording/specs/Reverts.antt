-- Undo and redo of a text with its history: nothing is done where edits aren't recorded.
use Rattle.std.specs.Prelude.{List, Result, Ok, Err, if◌then◌else◌}
use Rattle.rt_stamps.specs.declared.fault.Fault.{Fault}
use Rattle.rt_stamps.specs.Words.{Word}
use Rattle.rt_recording.specs.Reversals.{group_redone, group_undone}
use Rattle.rt_text.specs.Widgets.{ViewValue}
use Rattle.rt_undo.specs.Undo.{UndoHistory}
use Rattle.rt_recording.specs.EditedValue.{EditedValue}

-- a text after another view and history
abbrev pub with_history : EditedValue → Result (ViewValue × UndoHistory (List Word)) Fault → Result EditedValue Fault
with_history text (Ok left) = Ok (record text { view = left.0; history = left.1 })
with_history text (Err fault) = Err fault

-- `edit undo`
abbrev pub text_undone : EditedValue → Result EditedValue Fault
text_undone text = if text.undo then with_history text (group_undone text.view text.history) else Ok text

-- `edit redo`
abbrev pub text_redone : EditedValue → Result EditedValue Fault
text_redone text = if text.undo then with_history text (group_redone text.view text.history) else Ok text
