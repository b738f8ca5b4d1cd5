use Rattle.std.specs.BinaryHeap.{heap_items}
use Rattle.rt_holding.proofs.Passing.{due_behind, first_popped, first_was, none_before}
use Rattle.rt_holding.proofs.waits.pop_first.Goals as goal

pub returns-clause-some : goal.returns-clause-some
returns-clause-some c =
    let first = c.in_ok-first.field-0 in
    let old = heap_items c.args.due.now in
    let mid = heap_items c.pop.new.self in
    let moved = c.in_ok-first.ensures.permutation in
    let before = none_before first old (c.in_ok-first.ensures.heap_order c.requires).1 in
    record {
      was = first_was first old mid moved;
      first = before;
      gone = c.drop_same.ensures.gone (λ p h. before p (due_behind first old mid moved p h));
      others = first_popped first old mid (heap_items c.drop_same.new.due) moved c.drop_same.ensures.due;
    }
