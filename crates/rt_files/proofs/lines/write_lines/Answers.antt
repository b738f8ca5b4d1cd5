use Rattle.std.proofs.lemmas.Result.{err_from_is_err_and}
use Rattle.rt_files.specs.Shown.{shown_line}
use Rattle.rt_stamps.proofs.Writes.{writes_until}
use Rattle.rt_files.proofs.lines.write_lines.Goals as goal

pub returns-in_err-write_line : goal.returns-in_err-write_line
returns-in_err-write_line g c =
    let p = err_from_is_err_and c.from_residual.result c.from_residual.ensures.1 in
    rw (p.1, p.2)
    (writes_until shown_line _ _ _ _ c.args.ops.now c.loop-op.op-index _ c.loop-op-test.true c.loop-op.invariant.wrote c.loop-op.invariant.failures (rw c.op-item.is at c.in_err-write_line.ensures))
