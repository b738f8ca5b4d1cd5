use Rattle.std.proofs.Common.{◌≡◌, ◌++◌, drop}
use Rattle.rt_plans.specs.Removals.{is_covered, cells_at, RangesFollow}
use Rattle.rt_plans.proofs.cells.cells_in.Given as goal

abbrev pub invariant-loop-range : goal.invariant-loop-range
invariant-loop-range g l = record {
  cells : l.cells.items ++ cells_at (is_covered (drop l.range-index l.ranges)) 0 (g.S.TextStore.list l.store) ≡ cells_at (is_covered l.ranges) 0 (g.S.TextStore.list l.store);
  order : RangesFollow 0 (drop l.range-index l.ranges);
}
