use Rattle.std.proofs.Common.{arith}
use Rattle.rt_spans.proofs.Ranks.{before_less, before_more, before_same}
use Rattle.rt_spans.proofs.entry.SpanEntry.is_before.Goals as goal

pub returns-then-from-stamp : goal.returns-then-from-stamp
returns-then-from-stamp g c = rw (← c.from-from.ensures) (before_less _ _ _ _ c.if-from-stamp.true (omega arith))

pub returns-then-from-stamp-2 : goal.returns-then-from-stamp-2
returns-then-from-stamp-2 g c = rw (← c.from-from.ensures) (before_same _ _ _ _ c.if-from-stamp-2.true)

pub returns-else-from-stamp-2 : goal.returns-else-from-stamp-2
returns-else-from-stamp-2 g c =
    rw (← c.from-from.ensures) (before_more _ _ _ _ c.if-from-stamp.false c.if-from-stamp-2.false (omega arith))
