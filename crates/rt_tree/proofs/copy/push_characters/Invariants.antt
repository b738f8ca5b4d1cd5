use Rattle.std.proofs.Common.{◌≡◌, ◌≤◌, ◌+◌, ◌++◌, map, take, vec_len, vec_capacity}
use Rattle.rt_tree.proofs.copy.push_characters.Given as goal

abbrev pub invariant-loop-cell : goal.invariant-loop-cell
invariant-loop-cell l = record {
  items : l.text.items ≡ l.initial.text.items ++ map (λ cell. cell.ch) (take l.cell-index l.cells);
  len : vec_len l.text ≡ vec_len l.initial.text + l.cell-index;
  capacity : vec_capacity l.initial.text ≤ vec_capacity l.text;
}
