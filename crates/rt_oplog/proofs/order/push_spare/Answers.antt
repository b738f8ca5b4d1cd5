use Rattle.std.proofs.Common.{arith, subst, sym}
use Rattle.std.proofs.lemmas.Result.{err_from_is_err_and}
use Rattle.rt_oplog.specs.Spares.{AreSpare}
use Rattle.rt_oplog.proofs.order.push_spare.Goals as goal

pub returns-in_err-runs : goal.returns-in_err-runs
returns-in_err-runs c =
    let (y, is, gives) = err_from_is_err_and c.from_residual.result c.from_residual.ensures.1 in
    rw is (record { spares = c.requires; grows = omega arith; one = omega arith; ok = tt })

pub returns-in_err-push : goal.returns-in_err-push
returns-in_err-push c =
    let (y, is, gives) = err_from_is_err_and c.from_residual-in_err-push.result c.from_residual-in_err-push.ensures.1 in
    rw is (record {
      spares = subst AreSpare (sym c.in_err-push.ensures.items) c.requires;
      grows = omega (arith, c.in_err-push.ensures.len);
      one = omega (arith, c.in_err-push.ensures.len);
      ok = tt;
    })
