use Rattle.std.proofs.Common.{refl}
use Rattle.std.proofs.lemmas.Result.{err_from_is_err_and}
use Rattle.rt_peers.proofs.replies.positions_reply.Goals as goal

pub returns-in_err-words : goal.returns-in_err-words
returns-in_err-words c =
    let (y, is, gives) = err_from_is_err_and c.from_residual.result c.from_residual.ensures.1 in
    rw (is, gives) (record { ok = tt; err = refl })

pub returns-in_err-position_text : goal.returns-in_err-position_text
returns-in_err-position_text c =
    let (y, is, gives) = err_from_is_err_and c.from_residual-in_err-position_text.result c.from_residual-in_err-position_text.ensures.1 in
    rw (is, gives) (record { ok = tt; err = c.in_err-position_text.ensures.err })

pub returns-in_err-push : goal.returns-in_err-push
returns-in_err-push c =
    let (y, is, gives) = err_from_is_err_and c.from_residual-in_err-push.result c.from_residual-in_err-push.ensures.1 in
    rw (is, gives) (record { ok = tt; err = refl })
