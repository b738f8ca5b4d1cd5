use Rattle.std.proofs.lemmas.Result.{err_from_is_err_and}
use Rattle.rt_oplog.proofs.order.Order.of.Goals as goal

pub returns-in_err-reserve : goal.returns-in_err-reserve
returns-in_err-reserve c =
    let (y, is, gives) = err_from_is_err_and c.from_residual.result c.from_residual.ensures.1 in
    rw is tt
