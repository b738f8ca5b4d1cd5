use Rattle.std.proofs.Common.{arith, sym, ap, ◌-◌, ◌∙◌}
use Rattle.rt_index.proofs.Places.{next_start, next_start_some, last_end}
use Rattle.rt_index.proofs.values.line_end.Goals as goal

pub overflow_sub-result : goal.overflow_sub-result
overflow_sub-result g c =
    let text = (g.G.Ground.widget c.args.ground.now).text in
    omega (arith, c.line_start.ensures, next_start c.args.line text, next_start_some c.args.line text c.requires.first c.requires.last)

pub returns-else-line-lines : goal.returns-else-line-lines
returns-else-line-lines g c =
    let text = (g.G.Ground.widget c.args.ground.now).text in
    ap (λ n. n - 1) c.len.ensures ∙ sym (last_end c.args.line text (g.met.G.Ground.proper c.args.ground.now).newline (omega (arith, c.lines.ensures)) c.requires.last)
