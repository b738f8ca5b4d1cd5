use Rattle.rt_store.specs.Cells.{text_of}
use Rattle.rt_lines.specs.Stretches.{part}
use Rattle.rt_plans.proofs.SparingLaws.{last_ends, with_last, without_last}
use Rattle.rt_plans.proofs.removal.sparing.Goals as goal

pub spared-last-requires-clause-last : goal.spared-last-requires-clause-last
spared-last-requires-clause-last g c =
    last_ends (part c.args.stretch (text_of (g.S.TextStore.list c.args.store.now))) c.args.merged.items c.pop.new.self.items c.in-Some.last c.in-Some.ensures.items c.requires.apart c.requires.within

pub returns-then-last : goal.returns-then-last
returns-then-last g c =
    let taken = with_last (part c.args.stretch (text_of (g.S.TextStore.list c.args.store.now))) c.args.merged.items c.pop.new.self.items c.push_reserved.new.self.items c.in-Some.last c.spared-last.result
    c.in-Some.ensures.items c.requires.apart c.requires.within c.spared-last.ensures c.if-last.true c.push_reserved.ensures.items in
    record { order = taken.order; within = taken.within; places = taken.places }

pub returns-else-last : goal.returns-else-last
returns-else-last g c =
    let taken = without_last (part c.args.stretch (text_of (g.S.TextStore.list c.args.store.now))) c.args.merged.items c.pop.new.self.items c.in-Some.last c.spared-last.result
    c.in-Some.ensures.items c.requires.apart c.requires.within c.spared-last.ensures c.if-last.false in
    record { order = taken.order; within = taken.within; places = taken.places }
