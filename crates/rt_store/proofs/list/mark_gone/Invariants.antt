use Rattle.std.proofs.Common.{◌≡◌, ◌≤◌, ◌++◌, map, drop, take, vec_len, vec_capacity}
use Rattle.rt_store.specs.Cells.{gone_in}
use Rattle.rt_store.proofs.list.mark_gone.Given as goal

abbrev pub invariant-loop-i : goal.invariant-loop-i
invariant-loop-i l = record {
  items : l.cells.items ≡ map (gone_in l.span) (take l.i l.initial.cells.items) ++ drop l.i l.initial.cells.items;
  len : vec_len l.cells ≡ vec_len l.initial.cells;
  capacity : vec_capacity l.initial.cells ≤ vec_capacity l.cells;
}
