use Rattle.std.proofs.Common.{◌≡◌, vec_len, vec_capacity}
use Rattle.rt_rows.proofs.kept.take_any.Given as goal

abbrev pub invariant-loop-row : goal.invariant-loop-row
invariant-loop-row l = record {
  same : l.rows.items ≡ l.initial.rows.items;
  len : vec_len l.rows ≡ vec_len l.initial.rows;
  capacity : vec_capacity l.rows ≡ vec_capacity l.initial.rows;
}
