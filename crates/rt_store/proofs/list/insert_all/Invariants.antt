use Rattle.std.proofs.Common.{◌≡◌, ◌≤◌, ◌+◌, ◌++◌, drop, take, vec_len, vec_capacity}
use Rattle.rt_store.proofs.list.insert_all.Given as goal

abbrev pub invariant-loop-i : goal.invariant-loop-i
invariant-loop-i l = record {
  items : l.all.items ≡ take l.at l.initial.all.items ++ take l.i l.cells ++ drop l.at l.initial.all.items;
  len : vec_len l.all ≡ vec_len l.initial.all + l.i;
  capacity : vec_capacity l.initial.all ≤ vec_capacity l.all;
}
