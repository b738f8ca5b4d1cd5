use Rattle.std.proofs.lemmas.Result.{err_from_is_err_and}
use Rattle.rt_rga.proofs.plan.push_spans.Goals as goal

pub returns-in_err-push_span : goal.returns-in_err-push_span
returns-in_err-push_span c =
    let (y, is, gives) = err_from_is_err_and c.from_residual.result c.from_residual.ensures.1 in
    rw (is, gives) (record { ok = tt; fault = c.in_err-push_span.ensures.fault })
