use Rattle.std.proofs.Common.{◌∙◌, arith}
use Rattle.std.specs.BinaryHeap.{heap_items, heap_len}
use Rattle.std.specs.BTreeMap.{is_at}
use Rattle.rt_holding.specs.Kept.{by_stamp_and_arrival}
use Rattle.rt_holding.specs.Waits.{is_due}
use Rattle.rt_holding.proofs.Passing.{due_after, either_more, heap_popped, none_popped, not_on_top, popped, same_place, shorter_popped}
use Rattle.rt_holding.proofs.waits.drop_same.Goals as goal

pub loop-top-preserved : goal.loop-top-preserved
loop-top-preserved c =
    let before = c.loop-top.invariant in
    let old = heap_items c.loop-top.due in
    let new = heap_items c.pop-same.new.self in
    let e = c.pop-same.ensures in
    let none = none_popped _ _ c.pop-same.result e.unchanged in
    let less = shorter_popped c.pop-same.result (heap_len c.loop-top.due) (heap_len c.pop-same.new.self) e.len none.1 in
    let least = before.len in
    record {
      heap = heap_popped c.pop-same.result old new before.heap e.heap_order none.0;
      due = λ p h. either_more (is_due p c.loop-top.due) (is_at (by_stamp_and_arrival p) c.args.place) (is_due p c.pop-same.new.self)
          (before.due p h) (popped c.pop-same.result old new c.in-Some.field-0.now c.args.place c.in-Some.ensures.lookup (same_place c.in-Some.field-0.now.0 c.args.place c.ne.result c.ne.ensures c.if-ne.false)
          e.top e.permutation none.0 p);
      fewer = λ p h. before.fewer p (due_after c.pop-same.result old new e.permutation none.0 p h);
      len = omega (arith, less, least);
      capacity = e.capacity ∙ before.capacity;
    }

pub returns-then-ne-clause-gone : goal.returns-then-ne-clause-gone
returns-then-ne-clause-gone c first =
    let before = c.loop-top.invariant in
    not_on_top (heap_items c.loop-top.due) c.in-Some.field-0.now c.args.place c.ne.result c.in-Some.ensures.lookup (c.in-Some.ensures.greatest before.heap)
    (λ p h. first p (before.fewer p h)) c.ne.ensures c.if-ne.true
