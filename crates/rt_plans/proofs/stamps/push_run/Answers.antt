use Rattle.std.proofs.lemmas.Result.{err_from_is_err_and}
use Rattle.std.proofs.Common.{refl}
use Rattle.rt_plans.proofs.stamps.push_run.Goals as goal

pub returns-in_err-push : goal.returns-in_err-push
returns-in_err-push c =
    let (y, is, gives) = err_from_is_err_and c.from_residual.result c.from_residual.ensures.1 in
    rw (is, gives) (record { ok = tt; err = refl })
