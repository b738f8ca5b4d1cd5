use Rattle.std.proofs.Common.{arith}
use Rattle.rt_index.proofs.Places.{line_within, start_before}
use Rattle.rt_index.proofs.values.lines_forward.Goals as goal

pub line_start-requires-clause-last : goal.line_start-requires-clause-last
line_start-requires-clause-last g c =
    omega (arith, c.line_of-line.ensures, c.len.ensures, line_within c.args.place (g.G.Ground.widget c.args.ground.now).text (g.met.G.Ground.proper c.args.ground.now).newline)

pub overflow_sub-character : goal.overflow_sub-character
overflow_sub-character g c =
    let text = (g.G.Ground.widget c.args.ground.now).text in
    omega (arith, rw c.line_of-line.ensures at c.line_start.ensures, start_before c.args.place text)
