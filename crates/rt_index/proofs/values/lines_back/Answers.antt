use Rattle.std.proofs.Common.{arith}
use Rattle.rt_index.proofs.Places.{line_within, start_before, start_within, newlines_few, lines_some}
use Rattle.rt_index.proofs.values.lines_back.Goals as goal

pub line_start-requires-clause-last : goal.line_start-requires-clause-last
line_start-requires-clause-last g c =
    omega (arith, c.line_of-line.ensures, c.len.ensures, line_within c.args.place (g.G.Ground.widget c.args.ground.now).text (g.met.G.Ground.proper c.args.ground.now).newline)

pub overflow_sub-character : goal.overflow_sub-character
overflow_sub-character g c =
    let text = (g.G.Ground.widget c.args.ground.now).text in
    omega (arith, rw c.line_of-line.ensures at c.line_start.ensures, start_before c.args.place text)

pub overflow_add-lines : goal.overflow_add-lines
overflow_add-lines g c =
    let text = (g.G.Ground.widget c.args.ground.now).text in
    omega (arith, c.lines.ensures, newlines_few text, (g.met.G.Ground.proper c.args.ground.now).bounded)

pub line_start-requires-else-count-eq0-clause-last : goal.line_start-requires-else-count-eq0-clause-last
line_start-requires-else-count-eq0-clause-last g c =
    let text = (g.G.Ground.widget c.args.ground.now).text in
    let s = lines_some text (g.met.G.Ground.proper c.args.ground.now).newline in
    omega (arith, s, c.lines.ensures, c.saturating_sub-else-count-eq0.ensures, c.max-else-count-eq0.ensures)

pub returns-else-count-eq0-clause-within : goal.returns-else-count-eq0-clause-within
returns-else-count-eq0-clause-within g c =
    let text = (g.G.Ground.widget c.args.ground.now).text in
    omega (arith, c.line_start-else-count-eq0.ensures, start_within c.max-else-count-eq0.result text)
