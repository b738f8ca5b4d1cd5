use Rattle.std.proofs.lemmas.Result.{err_from_is_err_and}
use Rattle.rt_stamps.proofs.Writes.{writes_front, writes_then}
use Rattle.rt_script.proofs.reply.reply_line.Goals as goal

pub returns-in_err-write_answer : goal.returns-in_err-write_answer
returns-in_err-write_answer g c =
    let p = err_from_is_err_and c.from_residual.result c.from_residual.ensures.1 in
    rw (p.1, p.2) (writes_front _ _ _ _ _ c.in_err-write_answer.ensures)

pub returns : goal.returns
returns g c = writes_then _ _ _ _ c.write_all.result _ _ c.in_ok-write_answer.ensures c.write_all.ensures
