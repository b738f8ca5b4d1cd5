use Rattle.std.proofs.Common.{◌≡◌, ◌≤◌, drop}
use Rattle.rt_store.specs.Cells.{visible_of}
use Rattle.rt_store.specs.Tagged.{has_tag, previous_place}
use Rattle.rt_store.proofs.list.previous_place.Given as goal

abbrev pub invariant-loop-cell : goal.invariant-loop-cell
invariant-loop-cell l = record {
  rest : drop l.at (visible_of l.cells) ≡ visible_of (drop l.cell-index l.cells);
  same : l.last ≡ previous_place (has_tag l.states l.tag) (visible_of l.cells) l.at;
  within : l.at ≤ l.place;
  few : l.at ≤ l.cell-index;
}
