-- Histories with the names of tags in the place of the states that have them.
use Rattle.std.specs.Prelude.{ℕ, List, map}
use Rattle.std.specs.List.{AllByRecursion}
use Rattle.rt_stamps.specs.Words.{Word}
use Rattle.rt_tags.specs.States.{TagStates}
use Rattle.rt_undo.specs.Undo.{UndoHistory}
pub use Rattle.rt_revert.specs.Plans.{AreGiven, RemovedAreGiven, named_action, named_group, named_removed}

abbrev pub named_history : TagStates → UndoHistory ℕ → UndoHistory (List Word)
named_history table h = record {
  closed = map (named_group table) h.closed;
  current = named_group table h.current;
  undone = map (named_group table) h.undone;
  kept = h.kept;
  forced = h.forced;
  most = h.most;
}

-- the tags of removed characters are states that a table gave out
pub record HistoryIsGiven (table : TagStates) (h : UndoHistory ℕ) : Type 0 where
  pub closed : AllByRecursion (AreGiven table) h.closed
  pub current : AreGiven table h.current
  pub undone : AllByRecursion (AreGiven table) h.undone
