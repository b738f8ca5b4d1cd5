use Rattle.std.proofs.Common.{arith}
use Rattle.rt_lines.proofs.Places.{lines_few}
use Rattle.rt_lines.proofs.limits.Limits.end_number.Goals as goal

pub overflow_add-result : goal.overflow_add-result
overflow_add-result g c = omega (arith, c.last_line.ensures.last, lines_few (g.S.TextStore.list c.args.store.now), c.requires)
