use Rattle.std.proofs.Common.{◌≡◌, ◌||◌, drop, true}
use Rattle.std.specs.List.{list_all}
use Rattle.rt_stamps.specs.declared.stamp.Stamp.{Stamp}
use Rattle.rt_store.specs.Spans.{is_among, is_in_spans, is_span}
use Rattle.rt_plans.specs.Removals.{RangesFollow, is_covered, stamps_at}
use Rattle.rt_plans.proofs.runs.spans_there.Given as goal

abbrev pub invariant-loop-range : goal.invariant-loop-range
invariant-loop-range g l = record {
  forward : list_all is_span l.spans.items ≡ true;
  named : (stamp : Stamp)
      → (is_in_spans l.spans.items stamp || is_among (stamps_at (is_covered (drop l.range-index l.ranges)) 0 (g.S.TextStore.list l.store)) stamp)
      ≡ is_among (stamps_at (is_covered l.ranges) 0 (g.S.TextStore.list l.store)) stamp;
  order : RangesFollow 0 (drop l.range-index l.ranges);
}
