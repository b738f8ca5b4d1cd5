-- Cells on the way to other states.
use Rattle.std.specs.Prelude.{◌≡◌, ℕ, List, [], ◌∷◌, if◌then◌else◌}
use Rattle.rt_stamps.specs.Stamps.{is_same}
use Rattle.rt_store.specs.declared.cell.Cell.{Cell}
use Rattle.rt_store.specs.Cells.{is_in_span, with_state}
use Rattle.rt_tags.specs.States.{IsState, TagStates, Write, state_at, written}
use Rattle.rt_rga.specs.declared.tagging.StateChange.{StateChange}
use Rattle.rt_rga.specs.declared.tagging.StateRun.{StateRun}

-- a cell with the state that its copy has, or as it is where it has none
abbrev pub put_back : {T : Type 0} → List (Cell T) → Cell T → Cell T
put_back [] cell = cell
put_back (copy ∷ copies) cell = if is_same copy.stamp cell.stamp then with_state copy.state cell else put_back copies cell

-- a cell with the state of the run that has it, or as it is where none has
abbrev pub put_back_in_any : List StateRun → Cell ℕ → Cell ℕ
put_back_in_any [] cell = cell
put_back_in_any (run ∷ runs) cell = if is_in_span run.span cell.stamp then with_state run.state cell else put_back_in_any runs cell

-- what a state of a table came into by a write
pub record IsStateChange (table : TagStates) (write : Write) (change : StateChange) : Type 0 where
  pub before : IsState table change.before
  pub after : IsState table change.after
  pub written : state_at table change.after ≡ written write (state_at table change.before)
