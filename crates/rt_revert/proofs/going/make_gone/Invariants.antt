use Rattle.std.proofs.Common.{◌≡◌, ◌≤◌, drop, length, map}
use Rattle.rt_stamps.specs.declared.limits.TheConstants.{MOST_CELLS}
use Rattle.rt_store.specs.Spans.{gone_in_any}
use Rattle.rt_revert.specs.Progress.{spans_of}
use Rattle.rt_revert.proofs.going.make_gone.Given as goal

abbrev pub invariant-loop-part : goal.invariant-loop-part
invariant-loop-part g l = record {
  list : map (gone_in_any (spans_of (drop l.part-index l.removed))) (g.S.TextStore.list l.copy) ≡ map (gone_in_any (spans_of l.removed)) (g.S.TextStore.list l.initial.copy);
  agrees : g.S.TextStore.agrees l.copy l.kept;
  few : length (g.S.TextStore.list l.copy) ≤ MOST_CELLS;
}
