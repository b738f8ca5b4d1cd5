use Rattle.std.proofs.lemmas.Result.{err_from_is_err_and}
use Rattle.rt_text.proofs.view.View.new.Goals as goal

pub returns-in_err-doc : goal.returns-in_err-doc
returns-in_err-doc g c =
    let p = err_from_is_err_and c.from_residual.result c.from_residual.ensures.1 in
    rw (p.1, p.2) (record { ok = tt; err = c.in_err-doc.ensures.err })
