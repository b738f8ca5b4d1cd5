-- How a recorder keeps what it shows.
use Rattle.std.specs.Prelude.{◌≡◌, ◌<◌, true, [], map, option_map, IfSome, vec_len, vec_capacity}
use Rattle.rt_tags.specs.States.{TagStates}
use Rattle.rt_undo.specs.Actions.{removed_in}
use Rattle.rt_undo.specs.Seen.{UndoStacks}
use Rattle.rt_recording.specs.declared.recorder.Prepared.{Prepared}
use Rattle.rt_recording.specs.declared.recorder.Recorder.TheInside.{Inside}
use Rattle.rt_recording.specs.Naming.{HistoryIsGiven, RemovedAreGiven, named_history, named_removed}
use Rattle.rt_recording.specs.Recordings.{Recording}

abbrev pub recording_of : Inside → Recording
recording_of s = record {
  history = named_history s.table s.stacks.history;
  undo = s.undo;
  auto = s.auto_separators;
  pending = option_map (λ next. map (named_removed s.table) (removed_in next.removed.items)) s.next;
  moves = s.stacks.moves;
  ready = s.stacks.ready;
  table = s.table;
}

-- an action's tags are states of the table, and there is room for it
pub record IsPrepared (table : TagStates) (stacks : UndoStacks) (next : Prepared) : Type 0 where
  pub given : RemovedAreGiven table (removed_in next.removed.items)
  pub empty : next.inserted.items ≡ []
  pub room : vec_len next.inserted < vec_capacity next.inserted
  pub ready : stacks.ready ≡ true

pub record IsRecorder (s : Inside) : Type 0 where
  pub given : HistoryIsGiven s.table s.stacks.history
  pub next : IfSome s.next (IsPrepared s.table s.stacks)
