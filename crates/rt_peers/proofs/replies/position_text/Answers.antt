use Rattle.std.proofs.Common.{refl}
use Rattle.std.proofs.lemmas.Result.{err_from_is_err_and}
use Rattle.rt_peers.proofs.replies.position_text.Goals as goal

pub returns-in_err-text : goal.returns-in_err-text
returns-in_err-text c =
    let (y, is, gives) = err_from_is_err_and c.from_residual.result c.from_residual.ensures.1 in
    rw (is, gives) (record { ok = tt; err = refl })

pub returns-in_err-push_number : goal.returns-in_err-push_number
returns-in_err-push_number c =
    let (y, is, gives) = err_from_is_err_and c.from_residual-in_err-push_number.result c.from_residual-in_err-push_number.ensures.1 in
    rw (is, gives) (record { ok = tt; err = refl })

pub returns-in_err-push : goal.returns-in_err-push
returns-in_err-push c =
    let (y, is, gives) = err_from_is_err_and c.from_residual-in_err-push.result c.from_residual-in_err-push.ensures.1 in
    rw (is, gives) (record { ok = tt; err = refl })

pub returns-in_err-push_number-2 : goal.returns-in_err-push_number-2
returns-in_err-push_number-2 c =
    let (y, is, gives) = err_from_is_err_and c.from_residual-in_err-push_number-2.result c.from_residual-in_err-push_number-2.ensures.1 in
    rw (is, gives) (record { ok = tt; err = refl })
