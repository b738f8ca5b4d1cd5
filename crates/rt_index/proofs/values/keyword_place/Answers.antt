use Rattle.std.proofs.Common.{arith}
use Rattle.rt_index.proofs.Places.{line_within, start_within, end_within}
use Rattle.rt_index.proofs.values.keyword_place.Goals as goal

pub line_start-requires-clause-last : goal.line_start-requires-clause-last
line_start-requires-clause-last g c =
    omega (arith, c.line_of.ensures, line_within c.args.place (g.G.Ground.widget c.args.ground.now).text (g.met.G.Ground.proper c.args.ground.now).newline c.requires.place)

pub line_end-requires-clause-last : goal.line_end-requires-clause-last
line_end-requires-clause-last g c =
    omega (arith, c.line_of-in-LineEnd.ensures, line_within c.args.place (g.G.Ground.widget c.args.ground.now).text (g.met.G.Ground.proper c.args.ground.now).newline c.requires.place)

pub returns-in-LineStart-clause-within : goal.returns-in-LineStart-clause-within
returns-in-LineStart-clause-within g c = omega (arith, c.line_start.ensures, start_within c.line_of.result (g.G.Ground.widget c.args.ground.now).text)

pub returns-in-LineEnd-clause-within : goal.returns-in-LineEnd-clause-within
returns-in-LineEnd-clause-within g c = omega (arith, c.line_end.ensures, end_within c.line_of-in-LineEnd.result (g.G.Ground.widget c.args.ground.now).text)
