use Rattle.std.proofs.Common.{arith}
use Rattle.rt_lines.proofs.Places.{lines_few}
use Rattle.rt_lines.proofs.limits.Limits.with_lines.Goals as goal

pub overflow_add-lines : goal.overflow_add-lines
overflow_add-lines g c = omega (arith, c.lines.ensures, lines_few (g.S.TextStore.list c.args.store.now), c.requires)
