use Rattle.std.proofs.Common.{◌≡◌, ◌-◌, ◌≤◌, ◌&&◌, ◌||◌, ℕ, All}
use Rattle.rt_store.specs.Cells.{visible_of}
use Rattle.rt_store.specs.Tagged.{tag_is}
use Rattle.rt_plans.specs.Removals.{RangesFollow, is_covered, is_in}
use Rattle.rt_plans.specs.TagWrites.{passes_at}
use Rattle.rt_plans.proofs.changes.push_with.Given as goal

abbrev pub invariant-loop-next : goal.invariant-loop-next
invariant-loop-next g l = record {
  within : l.rest.from ≤ l.rest.to;
  to : l.rest.to ≡ l.fn.range.to;
  order : RangesFollow 0 l.found.items;
  ends : All (λ range. range.to ≤ l.rest.from) l.found.items;
  places : (place : ℕ)
      → (is_covered l.found.items place || (is_in l.rest place && passes_at (tag_is l.states l.tag l.on) (visible_of (g.S.TextStore.list l.store)) place))
      ≡ (is_covered l.fn.found.items place || (is_in l.fn.range place && passes_at (tag_is l.states l.tag l.on) (visible_of (g.S.TextStore.list l.store)) place));
}

abbrev pub decreases-loop-next : goal.decreases-loop-next
decreases-loop-next g l = l.rest.to - l.rest.from
