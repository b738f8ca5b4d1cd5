use Rattle.std.proofs.Common.{◌≡◌, ◌+◌, ◌-◌, ◌≤◌, All, true, ◌||◌}
use Rattle.rt_stamps.specs.declared.stamp.Stamp.{Stamp}
use Rattle.rt_stamps.specs.Spans.{is_in_span}
use Rattle.rt_store.specs.Cells.{stamps_of}
use Rattle.rt_store.specs.Spans.{is_among, is_in_spans}
use Rattle.rt_rga.specs.NamedRuns.{IsCellRun, spans_of_runs}
use Rattle.rt_rga.proofs.named.push_runs.Given as goal

abbrev pub invariant-loop-count : goal.invariant-loop-count
invariant-loop-count g l = record {
  from : l.span.first ≤ l.count;
  runs : All (IsCellRun (g.S.TextStore.list l.store)) l.runs.items;
  named : (stamp : Stamp) → is_among (stamps_of (g.S.TextStore.list l.store)) stamp ≡ true
      → (is_in_spans (spans_of_runs l.runs.items) stamp || is_in_span (record { site = l.span.site; first = l.count; last = l.span.last }) stamp)
      ≡ (is_in_spans (spans_of_runs l.initial.runs.items) stamp || is_in_span l.span stamp);
}

abbrev pub decreases-loop-count : goal.decreases-loop-count
decreases-loop-count g l = l.span.last + 1 - l.count
