use Rattle.std.specs.BinaryHeap.{heap_items}
use Rattle.rt_holding.proofs.Passing.{from_ok, moved}
use Rattle.rt_holding.proofs.waits.push_due.Goals as goal

pub returns-clause-due : goal.returns-clause-due
returns-clause-due c p =
    moved _ (heap_items c.push-pushed.new.self) (from_ok c.push-pushed.result (c.push-pushed.ensures.succeeds c.requires) c.push-pushed.ensures.permutation) p
