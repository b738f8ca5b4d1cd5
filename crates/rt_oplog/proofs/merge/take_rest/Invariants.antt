use Rattle.std.proofs.Common.{take}
use Rattle.rt_rows.specs.Places.{KeepsPlaces}
use Rattle.rt_oplog.specs.Merged.{IsTakenOver}
use Rattle.rt_oplog.proofs.merge.take_rest.Given as goal

abbrev pub invariant-loop-place : goal.invariant-loop-place
invariant-loop-place l = record {
  kept : KeepsPlaces l.initial.ops.rows l.ops.rows;
  taken : IsTakenOver l.more.rows l.ops.rows (take l.place-index l.places) l.initial.order.items l.order.items;
}
