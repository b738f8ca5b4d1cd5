use Rattle.std.proofs.Common.{◌≡◌, ◌∙◌, ℕ, All, List, ap, arith, length, subst, sym}
use Rattle.rt_tags.specs.Kept.{HaveNames, all_seen, state_of}
use Rattle.rt_tags.specs.Seen.{names_of}
use Rattle.rt_tags.specs.SharedStates.{at_id}
use Rattle.rt_tags.specs.States.{TagStates, IsTag, Write, state_at, writes_at}
use Rattle.rt_tags.specs.Writers.{state_after}
use Rattle.rt_tags.specs.declared.states.TagEntry.{TagEntry}
use Rattle.rt_tags.proofs.Keeping.{given_new, keeps_there, place_given, state_there, states_length, table_after, table_of}
use Rattle.rt_tags.proofs.states.StateTable.with_all.Goals as goal

pub write_all-requires-clause-given : goal.write_all-requires-clause-given
write_all-requires-clause-given c = place_given (names_of c.self.inside.names) c.self.inside.nodes.keys c.self.invariant c.args.self.now c.self.view_is c.state.inside.place c.args.state c.state.view_is c.requires.state

pub invariant_of-self : goal.invariant_of-self
invariant_of-self c =
    let names = names_of c.self.inside.names in
    let named : HaveNames (length names) c.args.writes.now = subst (λ (t : TagStates). All (λ (w : TagEntry). IsTag t w.tag) c.args.writes.now) (sym c.self.view_is) c.requires.tags in
    table_after (names_of c.self.inside.names) c.self.inside.nodes.keys c.self.invariant c.write_all.new.nodes.keys c.write_all.ensures.kept (c.write_all.ensures.below (length names) c.self.invariant.named named)

pub returns-in-Ok-clause-given : goal.returns-in-Ok-clause-given
returns-in-Ok-clause-given c = given_new (names_of c.self.inside.names) c.write_all.new.nodes.keys c.in-Ok.place c.in-Ok.ensures.given

pub returns-in-Ok-clause-ids : goal.returns-in-Ok-clause-ids
returns-in-Ok-clause-ids c = keeps_there c.args.self.now (names_of c.self.inside.names) c.self.inside.nodes.keys c.write_all.new.nodes.keys c.self.view_is c.write_all.ensures.more

pub returns-in-Ok-clause-state : goal.returns-in-Ok-clause-state
returns-in-Ok-clause-state c =
    let names = names_of c.self.inside.names in
    let old = c.self.inside.nodes.keys in
    let new = c.write_all.new.nodes.keys in
    let id = c.in-Ok.place in
    let writes = c.args.writes.now in
    let named : HaveNames (length names) writes = subst (λ (t : TagStates). All (λ (w : TagEntry). IsTag t w.tag) writes) (sym c.self.view_is) c.requires.tags in
    subst (λ (t : TagStates). state_at (table_of names new) id ≡ state_after (state_at t c.args.state) (writes_at t writes)) c.self.view_is
    (state_there names new id
    ∙ (c.in-Ok.ensures.states names c.self.invariant.names_differ c.self.invariant.named named
    ∙ ap (λ (s : List Write). state_after s (all_seen names writes)) (ap (λ (i : ℕ). state_of names (at_id old i)) c.state.view_is ∙ sym (state_there names old c.args.state))))

pub returns-in-Ok-clause-few : goal.returns-in-Ok-clause-few
returns-in-Ok-clause-few c = λ z.
    let names = names_of c.self.inside.names in
    let few = c.write_all.ensures.few (c.state.view_is ∙ z) in
    let new = states_length names c.write_all.new.nodes.keys in
    let old = states_length names c.self.inside.nodes.keys in
    let same = ap (λ (t : TagStates). length t.states) c.self.view_is in
    omega (arith, few, new, old, same)
