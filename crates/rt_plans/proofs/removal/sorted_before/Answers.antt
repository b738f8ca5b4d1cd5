use Rattle.std.proofs.Common.{rules, arith, sym, ◌∙◌, ◌<◌}
use Rattle.std.proofs.lemmas.List.Sorted.{IsNonDecreasingBy-from_sort, answers_always, All-permutation, list_any-IsPermutation}
use Rattle.rt_plans.specs.declared.range.Range.{Range}
use Rattle.rt_plans.specs.Removals.{is_in}
use Rattle.rt_plans.proofs.MergingLaws.{rising}
use Rattle.rt_plans.proofs.removal.sorted_before.Goals as goal

pub returns-clause-covered : goal.returns-clause-covered
returns-clause-covered c = λ place. sym (list_any-IsPermutation (λ range. is_in range place) _ _ c.sort_unstable_by_key.ensures.permutation) ∙ c.in_ok-sorted.ensures.covered place

pub returns-clause-rising : goal.returns-clause-rising
returns-clause-rising c =
    let from = λ (range : Range). range.from in
    rising 0 _ (IsNonDecreasingBy-from_sort from _ (c.sort_unstable_by_key.ensures.sorted from (answers_always _ _ _ (λ f a r g h. search rules))))
    (All-permutation (λ range. range.from < range.to) _ _ c.sort_unstable_by_key.ensures.permutation c.in_ok-sorted.ensures.some) (λ d h. omega arith)
