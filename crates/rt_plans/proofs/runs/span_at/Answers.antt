use Rattle.rt_plans.proofs.SpanRuns.{one_named, run_named}
use Rattle.rt_plans.proofs.runs.span_at.Goals as goal

pub returns-in-Some-clause-named : goal.returns-in-Some-clause-named
returns-in-Some-clause-named g c = λ stamp.
    let e = c.in-Some.ensures in
    run_named (g.S.TextStore.list c.args.store.now) c.args.range.from c.cell_at.result c.in-Some.run' stamp c.requires.distinct c.cell_at.ensures e.cell e.run e.last.0

pub returns-in-None-clause-named : goal.returns-in-None-clause-named
returns-in-None-clause-named g c = λ stamp. one_named (g.S.TextStore.list c.args.store.now) c.args.range.from c.cell_at.result stamp c.cell_at.ensures
