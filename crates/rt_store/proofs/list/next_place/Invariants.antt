use Rattle.std.proofs.Common.{◌≡◌, ◌≤◌, drop}
use Rattle.rt_store.specs.Cells.{visible_of}
use Rattle.rt_store.specs.Tagged.{next_place, tag_is}
use Rattle.rt_store.proofs.list.next_place.Given as goal

abbrev pub invariant-loop-cell : goal.invariant-loop-cell
invariant-loop-cell l = record {
  rest : drop l.at (visible_of l.cells) ≡ visible_of (drop l.cell-index l.cells);
  same : l.place ≤ l.at → next_place (tag_is l.states l.tag l.on) (visible_of l.cells) l.at ≡ next_place (tag_is l.states l.tag l.on) (visible_of l.cells) l.place;
  few : l.at ≤ l.cell-index;
}
