use Rattle.std.proofs.Common.{◌≡◌, ◌≤◌, length}
use Rattle.std.specs.Vec.Iter.{into_iter_items}
use Rattle.rt_rga.specs.Drafts.{ContinueInTurn, with_operations}
use Rattle.rt_rga.specs.Histories.{greatest_last_count}
use Rattle.rt_rga.specs.Making.{AreNewest}
use Rattle.rt_rga.proofs.logging.push_all.Given as goal

abbrev pub invariant-loop-op : goal.invariant-loop-op
invariant-loop-op l = record {
  continues : ContinueInTurn l.log.operations (into_iter_items l.op-iterator);
  newest : AreNewest l.log.operations (into_iter_items l.op-iterator);
  room : length (into_iter_items l.op-iterator) ≤ l.log.room;
  seen : l.clock ≡ greatest_last_count l.log.operations;
  operations : with_operations (into_iter_items l.op-iterator) l.log.operations ≡ with_operations l.fn.ops.items l.initial.log.operations;
}
