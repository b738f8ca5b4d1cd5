-- What is so of a site's view and of what the site recorded, between commands.
use Rattle.std.specs.Prelude.{◌≡◌, ℕ, ◌≤◌, ◌++◌, true, List, filter, length, map, if◌then◌else◌}
use Rattle.std.specs.List.{AllByRecursion, flat_map}
use Rattle.rt_stamps.specs.declared.stamp.Stamp.{Stamp}
use Rattle.rt_stamps.specs.Stamps.{is_same}
use Rattle.rt_stamps.specs.Words.{Word}
use Rattle.rt_store.specs.Shown.{TaggedCell}
use Rattle.rt_undo.specs.Actions.{Action}
use Rattle.rt_undo.specs.Undo.{UndoHistory}
use Rattle.rt_revert.specs.ReversionLaws.{AllMayRevert}
use Rattle.rt_recording.specs.Recordings.{Recording, came_back}
use Rattle.rt_text.specs.Widgets.{ViewValue}
pub use Rattle.rt_lines.specs.Limits.{is_gone_cell}

-- the stamps of the characters that actions took away; and those of both stacks
abbrev pub taken_by : List (Action (List Word)) → List Stamp
taken_by group = flat_map (λ action. map (λ r. r.stamp) action.removed) group

abbrev pub removed_in_history : UndoHistory (List Word) → List Stamp
removed_in_history h = flat_map taken_by h.closed ++ (taken_by h.current ++ flat_map taken_by h.undone)

-- how often a stamp stands among some
abbrev pub times : Stamp → List Stamp → ℕ
times stamp stamps = length (filter (λ s. is_same s stamp) stamps)

-- these characters are gone, and each stands among them once at most
abbrev pub AreGoneOnce : List TaggedCell → List Stamp → Type 0
AreGoneOnce cells stamps = (stamp : Stamp) → times stamp stamps ≤ (if is_gone_cell cells stamp then 1 else 0)

-- Who came back under another stamp is gone: it is another character since. Who was taken away is gone, and no other action took it
-- away. Each action of the history may be reverted: it names no final newline, and its tags are names as operations list them.
pub record IsSettled (view : ViewValue) (recording : Recording) : Type 0 where
  pub gone : (stamp : Stamp) → came_back recording stamp ≡ true → is_gone_cell view.doc.cells stamp ≡ true
  pub taken : AreGoneOnce view.doc.cells (removed_in_history recording.history)
  pub closed : AllByRecursion AllMayRevert recording.history.closed
  pub current : AllMayRevert recording.history.current
  pub undone : AllByRecursion AllMayRevert recording.history.undone
