use Rattle.std.proofs.Common.{◌≡◌, ◌||◌, ℕ, drop}
use Rattle.rt_ops.specs.Operations.{stamps_in}
use Rattle.rt_plans.specs.Removals.{is_covered}
use Rattle.rt_revert.specs.Planning.{ranges_of_visible}
use Rattle.rt_revert.proofs.work.places_of.Given as goal

abbrev pub invariant-loop-span : goal.invariant-loop-span
invariant-loop-span g l =
    (at : ℕ) → (is_covered l.ranges.items at || is_covered (ranges_of_visible (g.S.TextStore.list l.store) (stamps_in (drop l.span-index l.spans))) at)
    ≡ is_covered (ranges_of_visible (g.S.TextStore.list l.store) (stamps_in l.spans)) at
