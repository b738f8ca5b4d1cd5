use Rattle.std.proofs.Common.{rules}
use Rattle.std.proofs.lemmas.List.Sorted.{answers_always}
use Rattle.rt_rga.proofs.PlannedEntries.{entries_stay, in_order, key_of}
use Rattle.rt_rga.proofs.plan.put_in_order.Goals as goal

pub returns-clause-order : goal.returns-clause-order
returns-clause-order c = in_order _ (c.in_ok-sort_by_key.ensures.sorted key_of (answers_always _ _ _ (λ f a r g h. search rules)))

pub returns-clause-entries : goal.returns-clause-entries
returns-clause-entries c = entries_stay _ _ (c.sort_by_key.ensures.stable key_of (answers_always _ _ _ (λ f a r g h. search rules)))
