use Rattle.std.proofs.lemmas.Result.{err_from_is_err_and}
use Rattle.rt_text.proofs.range.ranges_at.Goals as goal

pub returns-in_err-places : goal.returns-in_err-places
returns-in_err-places g c =
    let p = err_from_is_err_and c.from_residual.result c.from_residual.ensures.1 in
    rw (p.1, p.2) (record { ok = tt; checked = tt; err = c.in_err-places.ensures.err })
