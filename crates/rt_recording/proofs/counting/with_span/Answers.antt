use Rattle.std.proofs.Common.{arith}
use Rattle.rt_recording.proofs.Counted.{span_length}
use Rattle.rt_recording.proofs.counting.with_span.Goals as goal

pub returns-then-span-clause-ok : goal.returns-then-span-clause-ok
returns-then-span-clause-ok c = omega (arith, span_length c.args.span, c.if-span.true)

pub returns-clause-ok : goal.returns-clause-ok
returns-clause-ok c = omega (arith, span_length c.args.span, c.if-span.false)
