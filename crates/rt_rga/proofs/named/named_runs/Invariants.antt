use Rattle.std.proofs.Common.{◌≡◌, All, true, ◌||◌, drop}
use Rattle.rt_stamps.specs.declared.stamp.Stamp.{Stamp}
use Rattle.rt_store.specs.Cells.{stamps_of}
use Rattle.rt_store.specs.Spans.{is_among, is_in_spans}
use Rattle.rt_rga.specs.NamedRuns.{IsCellRun, spans_of_runs}
use Rattle.rt_rga.proofs.named.named_runs.Given as goal

abbrev pub invariant-loop-span : goal.invariant-loop-span
invariant-loop-span g l = record {
  runs : All (IsCellRun (g.S.TextStore.list l.store)) l.runs.items;
  named : (stamp : Stamp) → is_among (stamps_of (g.S.TextStore.list l.store)) stamp ≡ true
      → (is_in_spans (spans_of_runs l.runs.items) stamp || is_in_spans (drop l.span-index l.spans) stamp) ≡ is_in_spans l.spans stamp;
}
