use Rattle.std.proofs.Common.{◌≡◌, ◌≤◌, ◌++◌, map, drop, take, vec_len, vec_capacity}
use Rattle.rt_store.specs.Cells.{state_in}
use Rattle.rt_store.proofs.list.mark_state.Given as goal

abbrev pub invariant-loop-i : goal.invariant-loop-i
invariant-loop-i l = record {
  items : l.cells.items ≡ map (state_in l.span l.state) (take l.i l.initial.cells.items) ++ drop l.i l.initial.cells.items;
  len : vec_len l.cells ≡ vec_len l.initial.cells;
  capacity : vec_capacity l.initial.cells ≤ vec_capacity l.cells;
}
