use Rattle.std.proofs.Common.{◌≡◌, arith}
use Rattle.rt_lines.specs.Limits.{first_line}
use Rattle.rt_lines.proofs.Places.{first_line_is, first_line_within}
use Rattle.rt_lines.proofs.limits.Limits.first_line.Goals as goal

pub returns-clause-first : goal.returns-clause-first
returns-clause-first g c =
    let cells = g.S.TextStore.list c.args.store.now in
    let e : c.min.result ≡ first_line cells c.args.self = first_line_is cells c.args.self _ _ _ _ c.line_behind_start.ensures c.unwrap_or.ensures c.requires.last c.min.ensures in
    omega (arith, e, first_line_within cells c.args.self (g.met.S.TextStore.ends c.args.store.now))
