use Rattle.std.proofs.Common.{rules}
use Rattle.std.proofs.lemmas.List.Sorted.{IsNonDecreasingBy-from_sort, answers_always}
use Rattle.rt_tags.specs.declared.toggles.TagCount.{TagCount}
use Rattle.rt_tags.proofs.ManyCounts.{counts_sorted, sorted}
use Rattle.rt_tags.proofs.many.sort.Goals as goal

pub returns-clause-order : goal.returns-clause-order
returns-clause-order c =
    let tag = λ (c : TagCount). c.tag in
    sorted _ _ c.requires.once c.sort_unstable_by_key.ensures.permutation
    (IsNonDecreasingBy-from_sort tag _ (c.sort_unstable_by_key.ensures.sorted tag (answers_always _ _ _ (λ f a r g h. search rules))))

pub returns-clause-counts : goal.returns-clause-counts
returns-clause-counts c t = counts_sorted t _ _ c.sort_unstable_by_key.ensures.permutation
