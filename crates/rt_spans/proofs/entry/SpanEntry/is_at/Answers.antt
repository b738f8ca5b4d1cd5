use Rattle.std.proofs.Common.{arith}
use Rattle.rt_spans.proofs.Ranks.{at_other, at_same}
use Rattle.rt_spans.proofs.entry.SpanEntry.is_at.Goals as goal

pub returns-then-from-stamp : goal.returns-then-from-stamp
returns-then-from-stamp g c = rw (← c.from-from.ensures) (at_same _ _ _ _ c.if-from-stamp.true)

pub returns-else-from-stamp : goal.returns-else-from-stamp
returns-else-from-stamp g c =
    rw (← c.from-from.ensures) (at_other _ _ _ _ c.if-from-stamp.false (omega arith) (omega arith))
