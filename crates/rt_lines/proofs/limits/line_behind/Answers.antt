use Rattle.std.proofs.Common.{sym, arith}
use Rattle.rt_lines.proofs.Places.{line_at_within, lines_few}
use Rattle.rt_lines.proofs.limits.line_behind.Goals as goal

pub overflow_add-result : goal.overflow_add-result
overflow_add-result g c =
    let cells = g.S.TextStore.list c.args.store.now in
    let within = line_at_within cells c.args.stamp c.in_ok-line.line (g.met.S.TextStore.ends c.args.store.now) (sym c.in_ok-line.ensures) in
    omega (arith, within, lines_few cells)
