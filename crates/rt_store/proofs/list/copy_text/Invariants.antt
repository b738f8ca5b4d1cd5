use Rattle.std.proofs.Common.{◌≡◌, ◌≤◌, ◌-◌, drop, take, length}
use Rattle.rt_store.specs.Cells.{text_of}
use Rattle.rt_store.proofs.list.copy_text.Given as goal

abbrev pub invariant-loop-cell : goal.invariant-loop-cell
invariant-loop-cell l = record {
  rest : drop l.at (text_of l.cells) ≡ text_of (drop l.cell-index l.cells);
  characters : take (l.at - l.place) l.buffer ≡ take (l.at - l.place) (drop l.place (text_of l.cells));
  behind : drop (l.at - l.place) l.buffer ≡ drop (l.at - l.place) l.initial.buffer;
  same : length l.buffer ≡ length l.initial.buffer;
  within : l.at - l.place ≤ length l.buffer;
  inside : l.at ≤ length (text_of l.cells);
  few : l.at ≤ l.cell-index;
}
