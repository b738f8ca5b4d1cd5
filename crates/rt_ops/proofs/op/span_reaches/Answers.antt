use Rattle.std.proofs.Common.{◌≡◌, true, nat_le, arith, rules}
use Rattle.std.proofs.lemmas.Bool.Decides.{nat_tests}
use Rattle.rt_ops.proofs.Spans.{span_reach}
use Rattle.rt_ops.proofs.op.span_reaches.Goals as goal

pub returns : goal.returns
returns c =
    let in_order : nat_le c.args.span.now.first c.args.span.now.last ≡ true = grind (arith, nat_tests, c.if-span.false) in
    rw (span_reach c.args.span.now c.args.stamp, in_order) (search rules)

pub returns-then-span : goal.returns-then-span
returns-then-span c = rw (span_reach c.args.span.now c.args.stamp) (grind (arith, nat_tests))
