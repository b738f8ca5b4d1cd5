use Rattle.std.proofs.lemmas.Result.{err_from_is_err_and}
use Rattle.rt_stamps.proofs.Writes.{writes_front, writes_then}
use Rattle.rt_files.proofs.lines.write_op.Goals as goal

pub returns-in_err-write_head : goal.returns-in_err-write_head
returns-in_err-write_head g c =
    let p = err_from_is_err_and c.from_residual.result c.from_residual.ensures.1 in
    rw (p.1, p.2) (writes_front _ _ _ _ _ c.in_err-write_head.ensures)

pub returns : goal.returns
returns g c = writes_then _ _ _ _ c.write_edit.result _ _ c.in_ok-write_head.ensures (rw c.edit.ensures.body at c.write_edit.ensures)
