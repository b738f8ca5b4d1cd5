use Rattle.std.proofs.Common.{◌≡◌, false, subst, sym, true}
use Rattle.rt_tags.specs.Seen.{IsAt, names_of}
use Rattle.rt_tags.specs.Tags.{Tags, is_listed}
use Rattle.rt_tags.proofs.Parts.{absent_part, at_part, behind_part}
use Rattle.rt_tags.proofs.Places.{listed_at}
use Rattle.rt_tags.proofs.table.TagTable.listed_place.Goals as goal
use Rattle.std.proofs.Common.{take}

pub returns-in-None-clause-found : goal.returns-in-None-clause-found
returns-in-None-clause-found c =
    subst (λ (t : Tags). false ≡ is_listed c.args.name.now t.names) c.self.view_is (sym (absent_part c.args.name.now (names_of c.self.inside.names) c.self.inside.listed (sym c.in-None.ensures.found)))

pub returns-then-place-self-clause-found : goal.returns-then-place-self-clause-found
returns-then-place-self-clause-found c =
    let names = names_of c.self.inside.names in
    let at = at_part c.args.name.now names c.self.inside.listed c.in-Some.place c.if-place-self.true c.in-Some.ensures.index in
    subst (λ (t : Tags). true ≡ is_listed c.args.name.now t.names) c.self.view_is (sym (listed_at c.args.name.now (take c.self.inside.listed names) c.in-Some.place at))

pub returns-then-place-self-clause-index : goal.returns-then-place-self-clause-index
returns-then-place-self-clause-index c =
    subst (λ (t : Tags). IsAt c.args.name.now t.names c.in-Some.place) c.self.view_is (at_part c.args.name.now (names_of c.self.inside.names) c.self.inside.listed c.in-Some.place c.if-place-self.true c.in-Some.ensures.index)

pub returns-else-place-self-clause-found : goal.returns-else-place-self-clause-found
returns-else-place-self-clause-found c =
    subst (λ (t : Tags). false ≡ is_listed c.args.name.now t.names) c.self.view_is (sym (behind_part c.args.name.now (names_of c.self.inside.names) c.self.inside.listed c.in-Some.place c.if-place-self.false c.in-Some.ensures.index))
