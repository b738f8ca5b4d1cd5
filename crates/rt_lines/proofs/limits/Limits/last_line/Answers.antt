use Rattle.std.proofs.Common.{◌≡◌, arith}
use Rattle.rt_lines.specs.Limits.{last_line}
use Rattle.rt_lines.proofs.Places.{last_line_is, last_line_within}
use Rattle.rt_lines.proofs.limits.Limits.last_line.Goals as goal

pub returns-clause-first : goal.returns-clause-first
returns-clause-first g c =
    let cells = g.S.TextStore.list c.args.store.now in
    let e : c.unwrap_or.result ≡ last_line cells c.args.self = last_line_is cells c.args.self _ _ _ c.line_at_end.ensures c.lines.ensures c.unwrap_or.ensures in
    omega (arith, e, last_line_within cells c.args.self (g.met.S.TextStore.ends c.args.store.now))

pub returns-clause-last : goal.returns-clause-last
returns-clause-last g c =
    let cells = g.S.TextStore.list c.args.store.now in
    let e : c.unwrap_or.result ≡ last_line cells c.args.self = last_line_is cells c.args.self _ _ _ c.line_at_end.ensures c.lines.ensures c.unwrap_or.ensures in
    omega (arith, e, last_line_within cells c.args.self (g.met.S.TextStore.ends c.args.store.now))
