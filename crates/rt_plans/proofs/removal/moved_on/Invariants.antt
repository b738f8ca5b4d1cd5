use Rattle.std.proofs.Common.{◌≡◌, drop, length, map, take}
use Rattle.rt_plans.specs.declared.range.Range.{Range}
use Rattle.rt_plans.specs.Merging.{range_from}
use Rattle.rt_plans.proofs.removal.moved_on.Given as goal

abbrev pub invariant-loop-i : goal.invariant-loop-i
invariant-loop-i l = record {
  done : map (λ (range : Range). range) (take l.i l.ranges.items) ≡ map (range_from l.begin) (map (λ (range : Range). range) (take l.i l.fn.ranges.items));
  rest : drop l.i l.ranges.items ≡ drop l.i l.fn.ranges.items;
  len : length l.ranges.items ≡ length l.fn.ranges.items;
}
