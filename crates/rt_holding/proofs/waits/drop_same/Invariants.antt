use Rattle.std.proofs.Common.{◌≡◌, ◌≤◌, ◌||◌, true}
use Rattle.std.specs.BTreeMap.{is_at}
use Rattle.std.specs.BinaryHeap.{IsHeap, heap_capacity, heap_items, heap_len}
use Rattle.rt_holding.specs.Kept.{Standing, by_stamp_and_arrival}
use Rattle.rt_holding.specs.Waits.{by_later, is_due}
use Rattle.rt_holding.proofs.waits.drop_same.Given as goal

abbrev pub invariant-loop-top : goal.invariant-loop-top
invariant-loop-top l = record {
  heap : IsHeap by_later (heap_items l.due);
  due : (p : Standing) → is_due p l.initial.due ≡ true → (is_due p l.due || is_at (by_stamp_and_arrival p) l.place) ≡ true;
  fewer : (p : Standing) → is_due p l.due ≡ true → is_due p l.initial.due ≡ true;
  len : heap_len l.due ≤ heap_len l.initial.due;
  capacity : heap_capacity l.due ≡ heap_capacity l.initial.due;
}

abbrev pub decreases-loop-top : goal.decreases-loop-top
decreases-loop-top l = heap_len l.due
