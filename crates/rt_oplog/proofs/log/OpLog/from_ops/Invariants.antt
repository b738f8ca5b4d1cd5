use Rattle.std.proofs.Common.{◌≡◌, take, drop}
use Rattle.std.specs.Vec.Iter.{into_iter_items}
use Rattle.rt_oplog.specs.Outcomes.{IsLogOf}
use Rattle.rt_oplog.proofs.log.OpLog.from_ops.Given as goal

abbrev pub invariant-loop-op : goal.invariant-loop-op
invariant-loop-op l = record {
  left : into_iter_items l.op-iterator ≡ drop l.place l.fn.ops.items;
  are : IsLogOf (take l.place l.fn.ops.items) l.log.operations;
}
