use Rattle.std.proofs.Common.{rules}
use Rattle.std.proofs.lemmas.List.Sorted.{IsNonDecreasingBy-from_sort_by_key, answers_always}
use Rattle.rt_tagcmd.proofs.Placing.{same_at}
use Rattle.rt_tagcmd.proofs.element_order.sort.Goals as goal

pub returns-clause-ok : goal.returns-clause-ok
returns-clause-ok c = record {
  permuted = c.in_ok-sort_by_key.ensures.permutation;
  rise = IsNonDecreasingBy-from_sort_by_key (λ e. e.place) _ c.in_ok-sort_by_key.ensures.sorted (λ a r q k. search rules);
  same = same_at _ _ (c.in_ok-sort_by_key.ensures.stable (λ e. e.place) (answers_always _ _ _ (λ f a r g h. search rules)));
}
