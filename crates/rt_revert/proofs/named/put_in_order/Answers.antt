use Rattle.std.proofs.Common.{◌∙◌, ◌==◌, ap, sym, subst}
use Rattle.std.specs.List.Sorted.{IsStrictlyIncreasing}
use Rattle.std.proofs.lemmas.List.Filters.{dedup_is}
use Rattle.std.proofs.lemmas.List.Sorted.{list_any-IsPermutation}
use Rattle.std.proofs.lemmas.Map.Keys.{IsStrictlyIncreasing-dedup}
use Rattle.rt_revert.specs.Named.{has_position}
use Rattle.rt_revert.proofs.Positions.{kept_once}
use Rattle.rt_revert.proofs.named.put_in_order.Goals as goal

pub returns-clause-rising : goal.returns-clause-rising
returns-clause-rising c =
    subst IsStrictlyIncreasing (sym (dedup_is (λ x y. x == y) _ _ c.dedup.ensures.filtered)) (IsStrictlyIncreasing-dedup _ c.sort_unstable.ensures.sorted)

pub returns-clause-same : goal.returns-clause-same
returns-clause-same c at =
    ap (λ l. has_position l at) (dedup_is (λ x y. x == y) _ _ c.dedup.ensures.filtered)
    ∙ kept_once c.sort_unstable.new.self.items at
    ∙ sym (list_any-IsPermutation (λ p. p == at) _ _ c.sort_unstable.ensures.permutation)
