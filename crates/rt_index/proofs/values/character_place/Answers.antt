use Rattle.std.proofs.Common.{◌≤◌, arith}
use Rattle.std.proofs.lemmas.Bool.Decides.{nat_tests}
use Rattle.rt_stamps.specs.Places.{newlines}
use Rattle.rt_index.proofs.Places.{end_within, start_ends, start_within}
use Rattle.rt_index.proofs.values.character_place.Goals as goal

pub returns-else-character-eq0-clause-within : goal.returns-else-character-eq0-clause-within
returns-else-character-eq0-clause-within g c = omega (arith, c.line_end.ensures, end_within c.args.line (g.G.Ground.widget c.args.ground.now).text)

pub returns-then-character-eq0-clause-within : goal.returns-then-character-eq0-clause-within
returns-then-character-eq0-clause-within g c = omega (arith, c.line_start-start.ensures, start_within c.args.line (g.G.Ground.widget c.args.ground.now).text)

pub returns-then-character-eq0-clause-value : goal.returns-then-character-eq0-clause-value
returns-then-character-eq0-clause-value g c =
    let text = (g.G.Ground.widget c.args.ground.now).text in
    let low : 1 ≤ c.args.line = omega (arith, c.if-line-eq0.false) in
    let high : c.args.line ≤ newlines text = omega (arith, c.if-line-lines.true, c.lines.ensures) in
    grind (arith, nat_tests, c.line_start-start.ensures, start_ends c.args.line text low high, low, high, c.if-character-eq0.true)
