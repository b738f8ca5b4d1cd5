use Rattle.std.proofs.Common.{arith}
use Rattle.std.proofs.lemmas.Result.{err_from_is_err_and}
use Rattle.std.proofs.lemmas.Grind.{common_steps}
use Rattle.rt_ops.proofs.spell.push_spans.Goals as goal

pub returns-in_err-push_u32 : goal.returns-in_err-push_u32
returns-in_err-push_u32 c =
    let (y, is, gives) = err_from_is_err_and c.from_residual.result c.from_residual.ensures.1 in
    rw (is, gives) (record { ok = tt; fits = tt; fault = c.in_err-push_u32.ensures.fault })

pub returns-in_err-push_span : goal.returns-in_err-push_span
returns-in_err-push_span c =
    let (y, is, gives) = err_from_is_err_and c.from_residual-in_err-push_span.result c.from_residual-in_err-push_span.ensures.1 in
    rw (is, gives) (record { ok = tt; fits = tt; fault = c.in_err-push_span.ensures.fault })

pub loop-span-preserved : goal.loop-span-preserved
loop-span-preserved c = grind (arith, common_steps)
