use Rattle.std.proofs.Common.{◌-◌, ◌≤◌, vec_len}
use Rattle.rt_oplog.specs.Spares.{AreSpare}
use Rattle.rt_oplog.proofs.order.fill.Given as goal

abbrev pub invariant-loop-alloc : goal.invariant-loop-alloc
invariant-loop-alloc l = record {
  spares : AreSpare l.spare.items;
  grows : vec_len l.initial.spare ≤ vec_len l.spare;
  bound : vec_len l.spare ≤ l.count;
}

abbrev pub decreases-loop-alloc : goal.decreases-loop-alloc
decreases-loop-alloc l = l.count - vec_len l.spare
