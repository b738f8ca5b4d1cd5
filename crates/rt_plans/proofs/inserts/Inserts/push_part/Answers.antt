use Rattle.std.proofs.lemmas.Result.{err_from_is_err_and}
use Rattle.rt_plans.proofs.inserts.Inserts.push_part.Goals as goal

pub returns-in-Err : goal.returns-in-Err
returns-in-Err c = record { drafts = tt; count = tt; behind = tt; err = c.in-Err.ensures.err }

pub returns-in_err-push : goal.returns-in_err-push
returns-in_err-push c =
    let (y, is, gives) = err_from_is_err_and c.from_residual.result c.from_residual.ensures.1 in
    rw (is, gives) (record { drafts = tt; count = tt; behind = tt; err = c.in_err-push.ensures.err })

pub returns-in_err-push_tags : goal.returns-in_err-push_tags
returns-in_err-push_tags c =
    let (y, is, gives) = err_from_is_err_and c.from_residual-in_err-push_tags.result c.from_residual-in_err-push_tags.ensures.1 in
    rw (is, gives) (record { drafts = tt; count = tt; behind = tt; err = c.in_err-push_tags.ensures.err })
