use Rattle.std.proofs.Common.{map, take}
use Rattle.std.specs.Prelude.{IfSome, List, ℕ}
use Rattle.rt_store.specs.declared.cell.Cell.{Cell}
use Rattle.rt_store.specs.Shown.{shown}
use Rattle.rt_store.specs.Tagged.{AreStates}
use Rattle.rt_tags.specs.States.{KeepsIds}
use Rattle.rt_revert.specs.Keeping.{AreAlike}
use Rattle.rt_revert.specs.Named.{AreAt}
use Rattle.rt_revert.specs.Progress.{LookAlike}
use Rattle.rt_revert.proofs.copying.kept_cells.Given as goal

abbrev pub invariant-loop-position : goal.invariant-loop-position
invariant-loop-position g l = record {
  states : AreStates l.kept l.cells.items;
  alike : (named : List (Cell ℕ)) → AreAt (g.S.TextStore.list l.store) l.positions named
      → LookAlike (map (shown l.kept) l.cells.items) (map (shown l.states) (take l.position-index named));
  known : IfSome l.known (AreAlike l.states l.kept);
  ids : KeepsIds l.initial.kept l.kept;
}
