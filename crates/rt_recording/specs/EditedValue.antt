-- A text and what its site recorded of its edits.
use Rattle.std.specs.Prelude.{Bool, List}
use Rattle.rt_stamps.specs.Words.{Word}
use Rattle.rt_recording.specs.Recordings.{Recording}
use Rattle.rt_text.specs.Widgets.{ViewValue}
use Rattle.rt_undo.specs.Undo.{UndoHistory}

-- a text as its widget shows it; the history of its edits, with the tags of removed characters by their names, in which stands how
-- many groups may be undone (-maxundo); whether edits are recorded (-undo), and whether separators are automatic (-autoseparators)
pub record EditedValue : Type 0 where
  pub view : ViewValue
  pub history : UndoHistory (List Word)
  pub undo : Bool
  pub auto : Bool

-- a view with what a recorder has recorded of it
abbrev pub edited : ViewValue → Recording → EditedValue
edited view recording = record { view = view; history = recording.history; undo = recording.undo; auto = recording.auto }
