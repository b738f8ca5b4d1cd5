use Rattle.std.proofs.Common.{◌≡◌, ◌-◌, ◌≤◌, ◌||◌, drop, take, true}
use Rattle.std.specs.List.{list_all}
use Rattle.rt_stamps.specs.declared.stamp.Stamp.{Stamp}
use Rattle.rt_store.specs.Cells.{stamps_of, visible_of}
use Rattle.rt_store.specs.Spans.{is_among, is_in_spans, is_span}
use Rattle.rt_plans.proofs.runs.push_spans.Given as goal

abbrev pub invariant-loop-place : goal.invariant-loop-place
invariant-loop-place g l = record {
  within : l.place ≤ l.range.to;
  forward : list_all is_span l.spans.items ≡ true;
  named : (stamp : Stamp)
      → (is_in_spans l.spans.items stamp || is_among (stamps_of (take (l.range.to - l.place) (drop l.place (visible_of (g.S.TextStore.list l.store))))) stamp)
      ≡ (is_in_spans l.initial.spans.items stamp || is_among (stamps_of (take (l.range.to - l.range.from) (drop l.range.from (visible_of (g.S.TextStore.list l.store))))) stamp);
}

abbrev pub decreases-loop-place : goal.decreases-loop-place
decreases-loop-place g l = l.range.to - l.place
