use Rattle.std.proofs.Common.{◌≡◌, [], ℕ, false, subst, sym}
use Rattle.std.proofs.lemmas.Option.{get_or_from_slice_get}
use Rattle.rt_tags.specs.Seen.{names_of}
use Rattle.rt_tags.specs.Tags.{is_listed}
use Rattle.rt_tags.specs.States.{TagStates, IsTag, is_on, name_at, state_at}
use Rattle.rt_tags.proofs.Keeping.{nowhere_on}
use Rattle.rt_tags.proofs.Places.{at_within, got}
use Rattle.rt_tags.proofs.states.StateTable.known.Goals as goal

pub returns-in-Some-clause-tag : goal.returns-in-Some-clause-tag
returns-in-Some-clause-tag c =
    subst (λ (t : TagStates). name_at t c.in-Some.place ≡ c.args.name.now) c.self.view_is
    (get_or_from_slice_get (names_of c.self.inside.names) c.in-Some.place c.args.name.now [] (got c.args.name.now (names_of c.self.inside.names) c.in-Some.place c.in-Some.ensures.index))

pub returns-in-Some-clause-given : goal.returns-in-Some-clause-given
returns-in-Some-clause-given c = subst (λ (t : TagStates). IsTag t c.in-Some.place) c.self.view_is (at_within c.args.name.now (names_of c.self.inside.names) c.in-Some.place c.in-Some.ensures.index)

pub returns-in-None-clause-nowhere : goal.returns-in-None-clause-nowhere
returns-in-None-clause-nowhere c =
    let new : is_listed c.args.name.now (names_of c.self.inside.names) ≡ false = sym c.in-None.ensures.found in
    subst (λ (t : TagStates). (state : ℕ) → is_on c.args.name.now (state_at t state) ≡ false) c.self.view_is
    (λ state. nowhere_on (names_of c.self.inside.names) c.self.inside.nodes.keys c.self.invariant c.args.name.now state new)
