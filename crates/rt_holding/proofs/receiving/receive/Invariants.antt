use Rattle.std.proofs.Common.{◌≡◌, ◌≤◌, length}
use Rattle.rt_holding.specs.Grown.{AreTriedAt}
use Rattle.rt_holding.specs.declared.held.TheConstants.{MOST_HELD}
use Rattle.rt_holding.proofs.Receptions.{HasOffered}
use Rattle.rt_holding.proofs.receiving.receive.Given as goal

abbrev pub invariant-records : goal.invariant-records
invariant-records g l = record {
  offered : HasOffered g.T.Taking.log g.T.Taking.limit g.T.Taking.after l.records (record { site = l.initial.site; held = l.initial.held.held })
      l.received (record { site = l.site; held = l.held.held });
  bytes : l.records.bytes ≡ l.fn.bytes;
  most : length l.initial.held.held ≤ MOST_HELD;
  tried : AreTriedAt (g.T.Taking.limit l.site) (g.T.Taking.log l.site) l.held;
}

abbrev pub decreases-records : goal.decreases-records
decreases-records g l = length l.records.rest
