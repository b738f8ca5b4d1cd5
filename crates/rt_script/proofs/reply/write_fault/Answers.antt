use Rattle.std.proofs.Common.{◌∷◌, []}
use Rattle.std.proofs.lemmas.Result.{err_from_is_err_and}
use Rattle.rt_stamps.proofs.Writes.{writes_front}
use Rattle.rt_script.proofs.reply.write_fault.Goals as goal

pub returns-in_err-write_all : goal.returns-in_err-write_all
returns-in_err-write_all g c =
    let p = err_from_is_err_and c.from_residual.result c.from_residual.ensures.1 in
    rw (p.1, p.2) (writes_front _ _ _ (33 ∷ 32 ∷ []) _ c.in_err-write_all.ensures)
