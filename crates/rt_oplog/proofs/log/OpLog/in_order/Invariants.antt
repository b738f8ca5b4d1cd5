use Rattle.rt_rows.specs.Places.{op_at}
use Rattle.std.proofs.Common.{◌≡◌, map, take, true}
use Rattle.std.specs.List.{AllByRecursion}
use Rattle.rt_ops.specs.Rules.{keeps_rules}
use Rattle.rt_ops.specs.Views.{body_in, operation_in}
use Rattle.rt_oplog.proofs.log.OpLog.in_order.Given as goal

abbrev pub invariant-loop-place : goal.invariant-loop-place
invariant-loop-place l = record {
  seen : map operation_in l.ops.items ≡ map (op_at l.self-inside.ops.rows) (take l.place-index l.place-items);
  rules : AllByRecursion (λ op. keeps_rules (body_in op.edit) ≡ true) l.ops.items;
}
