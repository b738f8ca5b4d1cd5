use Rattle.std.proofs.Common.{◌≡◌, ◌+◌, ◌-◌, ◌||◌, ℕ}
use Rattle.rt_ops.specs.Operations.{stamps_from, stamps_of_span}
use Rattle.rt_plans.specs.Removals.{is_covered}
use Rattle.rt_revert.specs.Planning.{ranges_of_visible}
use Rattle.rt_revert.proofs.work.push_places.Given as goal

abbrev pub invariant-loop-count : goal.invariant-loop-count
invariant-loop-count g l =
    let cells = g.S.TextStore.list l.store in
    (at : ℕ) → (is_covered l.ranges.items at || is_covered (ranges_of_visible cells (stamps_from l.span.site l.count (l.span.last + 1 - l.count))) at)
    ≡ (is_covered l.initial.ranges.items at || is_covered (ranges_of_visible cells (stamps_of_span l.span)) at)
