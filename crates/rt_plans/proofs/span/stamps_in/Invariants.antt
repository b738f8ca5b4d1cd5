use Rattle.std.proofs.Common.{◌≡◌, ◌++◌, drop}
use Rattle.rt_plans.specs.Removals.{is_covered, stamps_at, RangesFollow}
use Rattle.rt_plans.proofs.span.stamps_in.Given as goal

abbrev pub invariant-loop-range : goal.invariant-loop-range
invariant-loop-range g l = record {
  stamps : l.stamps.items ++ stamps_at (is_covered (drop l.range-index l.removed)) 0 (g.S.TextStore.list l.store) ≡ stamps_at (is_covered l.removed) 0 (g.S.TextStore.list l.store);
  order : RangesFollow 0 (drop l.range-index l.removed);
}
