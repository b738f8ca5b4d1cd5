use Rattle.std.proofs.lemmas.Result.{err_from_is_err_and}
use Rattle.rt_stamps.proofs.Writes.{writes_front, writes_then}
use Rattle.rt_files.proofs.lines.write_head.Goals as goal

pub returns-in_err-write_all : goal.returns-in_err-write_all
returns-in_err-write_all g c =
    let p = err_from_is_err_and c.from_residual.result c.from_residual.ensures.1 in
    rw (p.1, p.2) (writes_front _ _ _ _ _ (rw (c.kind_word.ensures, c.edit.ensures.body) at c.in_err-write_all.ensures))

pub returns : goal.returns
returns g c = writes_then _ _ _ _ c.write_parts.result _ _ (rw (c.kind_word.ensures, c.edit.ensures.body) at c.in_ok-write_all.ensures) (rw (c.stamp.ensures, c.prev.ensures) at c.write_parts.ensures)
