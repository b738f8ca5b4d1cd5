use Rattle.std.proofs.lemmas.Result.{err_from_is_err_and}
use Rattle.rt_stamps.proofs.Writes.{writes_front, writes_then}
use Rattle.rt_files.proofs.SpacedLaws.{line_is}
use Rattle.rt_files.proofs.lines.write_line.Goals as goal

pub returns-in_err-write_op : goal.returns-in_err-write_op
returns-in_err-write_op g c =
    let p = err_from_is_err_and c.from_residual.result c.from_residual.ensures.1 in
    rw (p.1, p.2, line_is) (writes_front _ _ _ _ _ c.in_err-write_op.ensures)

pub returns : goal.returns
returns g c = rw line_is (writes_then _ _ _ _ c.write_all.result _ _ c.in_ok-write_op.ensures c.write_all.ensures)
