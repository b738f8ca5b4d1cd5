use Rattle.std.proofs.Common.{◌≡◌, ◌≤◌, ◌&&◌, ◌||◌, ℕ, All, drop}
use Rattle.rt_store.specs.Cells.{visible_of}
use Rattle.rt_store.specs.Tagged.{tag_is}
use Rattle.rt_plans.specs.Removals.{RangesFollow, is_covered}
use Rattle.rt_plans.specs.TagWrites.{passes_at}
use Rattle.rt_plans.proofs.changes.ranges_with.Given as goal

abbrev pub invariant-loop-range : goal.invariant-loop-range
invariant-loop-range g l = record {
  order : RangesFollow 0 l.found.items;
  ahead : (end : ℕ) × All (λ range. range.to ≤ end) l.found.items × RangesFollow end (drop l.range-index l.ranges);
  places : (place : ℕ)
      → (is_covered l.found.items place || (is_covered (drop l.range-index l.ranges) place && passes_at (tag_is l.states l.tag l.on) (visible_of (g.S.TextStore.list l.store)) place))
      ≡ (is_covered l.ranges place && passes_at (tag_is l.states l.tag l.on) (visible_of (g.S.TextStore.list l.store)) place);
}
