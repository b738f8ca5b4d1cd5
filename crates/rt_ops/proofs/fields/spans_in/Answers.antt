use Rattle.std.proofs.Common.{refl, arith}
use Rattle.std.proofs.lemmas.Result.{err_from_is_err_and}
use Rattle.std.proofs.lemmas.Grind.{common_steps}
use Rattle.rt_ops.proofs.fields.spans_in.Goals as goal

pub returns-in_err-push : goal.returns-in_err-push
returns-in_err-push c =
    let (y, is, gives) = err_from_is_err_and c.from_residual.result c.from_residual.ensures.1 in
    rw (is, gives) (record { fits = tt; count = tt; bytes = tt; fault = refl })

pub loop-preserved : goal.loop-preserved
loop-preserved c = grind (arith, common_steps)
