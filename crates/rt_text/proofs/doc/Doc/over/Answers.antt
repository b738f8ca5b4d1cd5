use Rattle.std.proofs.lemmas.Result.{err_from_is_err_and}
use Rattle.rt_text.proofs.doc.Doc.over.Goals as goal

pub returns-in_err-tags : goal.returns-in_err-tags
returns-in_err-tags g c =
    let p = err_from_is_err_and c.from_residual.result c.from_residual.ensures.1 in
    rw (p.1, p.2) (record { ok = tt; err = c.in_err-tags.ensures.fault })
