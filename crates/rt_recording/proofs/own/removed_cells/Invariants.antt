use Rattle.std.proofs.Common.{◌≡◌, map, take}
use Rattle.std.specs.Prelude.{IfSome}
use Rattle.rt_revert.specs.Keeping.{AreAlike}
use Rattle.rt_revert.specs.Reverting.{as_removed}
use Rattle.rt_store.specs.Shown.{shown}
use Rattle.rt_tags.specs.States.{KeepsIds}
use Rattle.rt_undo.specs.Actions.{removed_in}
use Rattle.rt_recording.specs.Naming.{RemovedAreGiven, named_removed}
use Rattle.rt_recording.proofs.own.removed_cells.Given as goal

abbrev pub invariant-loop-cell : goal.invariant-loop-cell
invariant-loop-cell l = record {
  named : map (named_removed l.table) (removed_in l.removed.items) ≡ map as_removed (map (shown l.states) (take l.cell-index l.cells));
  given : RemovedAreGiven l.table (removed_in l.removed.items);
  known : IfSome l.known (AreAlike l.states l.table);
  ids : KeepsIds l.fn.table l.table;
}
