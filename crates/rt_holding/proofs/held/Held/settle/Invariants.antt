use Rattle.std.proofs.Common.{◌≡◌, ◌+◌, ◌*◌, ◌^◌, ◌≤◌, length}
use Rattle.std.specs.BTreeMap.{IsOrdered}
use Rattle.std.specs.BinaryHeap.{heap_len}
use Rattle.rt_rga.specs.Histories.{IsHistory}
use Rattle.rt_holding.specs.Kept.{AreHeld, by_stamp_and_arrival, ops_in}
use Rattle.rt_holding.specs.Taken.{site_holding}
use Rattle.rt_holding.specs.Waits.{IsReady}
use Rattle.rt_holding.proofs.Steps.{IsGoing}
use Rattle.rt_holding.proofs.held.Held.settle.Given as goal

abbrev pub invariant-loop-place : goal.invariant-loop-place
invariant-loop-place g l = record {
  limit : g.T.Taking.limit l.site ≡ g.T.Taking.limit l.initial.site;
  history : IsHistory (g.T.Taking.log l.site);
  held : AreHeld l.self-inside.arrivals l.self-inside.ops.entries;
  waits : IsReady 0 l.self-inside.waits;
  ordered : IsOrdered by_stamp_and_arrival l.self-inside.ops;
  goes : IsGoing g.T.Taking.log g.T.Taking.after l.lacks (g.T.Taking.limit l.initial.site)
      (site_holding g.T.Taking.log l.initial.site (ops_in l.initial.self-inside.ops.entries))
      l.initial.site l.site l.self-inside.ops l.self-inside.waits l.taken;
  few : l.taken + length l.self-inside.ops.entries ≤ length l.initial.self-inside.ops.entries;
}

abbrev pub decreases-loop-place : goal.decreases-loop-place
decreases-loop-place g l = length l.self-inside.ops.entries * (2 ^ 63 + 1) + heap_len l.self-inside.waits.due
