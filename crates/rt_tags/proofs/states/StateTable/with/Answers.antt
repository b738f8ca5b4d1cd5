use Rattle.std.proofs.Common.{◌≡◌, ◌∙◌, ◌<◌, ℕ, ap, length, subst, sym, Ok}
use Rattle.rt_tags.specs.Kept.{write_seen, state_of}
use Rattle.rt_tags.specs.Seen.{names_of}
use Rattle.rt_tags.specs.SharedStates.{at_id}
use Rattle.rt_tags.specs.States.{TagStates, IsTag, state_at, write_at, written}
use Rattle.rt_tags.specs.declared.states.TagEntry.{TagEntry}
use Rattle.rt_tags.proofs.Keeping.{full_at, keeps_there, kept_there, place_given, state_there, table_after, table_of}
use Rattle.rt_tags.proofs.SeenStates.{written_there}
use Rattle.rt_tags.proofs.states.StateTable.with.Goals as goal

pub write-requires-clause-given : goal.write-requires-clause-given
write-requires-clause-given c = place_given (names_of c.self.inside.names) c.self.inside.nodes.keys c.self.invariant c.args.self.now c.self.view_is c.state.inside.place c.args.state c.state.view_is c.requires.state

pub invariant_of-self-2 : goal.invariant_of-self-2
invariant_of-self-2 c =
    let names = names_of c.self.inside.names in
    let tag : c.args.tag < length names = subst (λ (t : TagStates). IsTag t c.args.tag) (sym c.self.view_is) c.requires.tag in
    table_after (names_of c.self.inside.names) c.self.inside.nodes.keys c.self.invariant c.write.new.nodes.keys c.write.ensures.kept (c.write.ensures.below (length names) c.self.invariant.named tag)

pub returns-clause-state : goal.returns-clause-state
returns-clause-state c =
    let names = names_of c.self.inside.names in
    let old = c.self.inside.nodes.keys in
    let new = c.write.new.nodes.keys in
    let at = c.state.inside.place in
    let id = c.in_ok-place.place in
    let inv = c.self.invariant in
    let e : TagEntry = record { tag = c.args.tag; writer = c.args.writer; on = c.args.on } in
    let tag : c.args.tag < length names = subst (λ (t : TagStates). IsTag t c.args.tag) (sym c.self.view_is) c.requires.tag in
    subst (λ (t : TagStates). state_at (table_of names new) id ≡ written (write_at t c.args.tag c.args.writer c.args.on) (state_at t c.args.state)) c.self.view_is
    (state_there names new id
    ∙ (written_there names inv.names_differ (at_id old at) (at_id new id) (full_at old at inv.shared) (inv.named at) (full_at new id c.write.ensures.kept)
    (c.write.ensures.below (length names) inv.named tag id) e tag c.in_ok-place.ensures.settings
    ∙ ap (written (write_seen names e)) (ap (λ (i : ℕ). state_of names (at_id old i)) c.state.view_is ∙ sym (state_there names old c.args.state))))

pub returns-in_err-place-clause-same : goal.returns-in_err-place-clause-same
returns-in_err-place-clause-same c = λ settled.
    let e : TagEntry = record { tag = c.args.tag; writer = c.args.writer; on = c.args.on } in
    let k = kept_there (names_of c.self.inside.names) c.self.inside.nodes.keys c.self.invariant c.args.self.now c.self.view_is c.state.inside.place c.args.state e c.state.view_is c.requires.tag settled in
    let no = c.in_err-place.ensures.same k in
    absurd (cc)

pub returns-clause-same : goal.returns-clause-same
returns-clause-same c = λ settled.
    let e : TagEntry = record { tag = c.args.tag; writer = c.args.writer; on = c.args.on } in
    let k = kept_there (names_of c.self.inside.names) c.self.inside.nodes.keys c.self.invariant c.args.self.now c.self.view_is c.state.inside.place c.args.state e c.state.view_is c.requires.tag settled in
    c.in_ok-place.ensures.same k ∙ ap (λ (i : ℕ). Ok i) c.state.view_is

pub returns-clause-ids : goal.returns-clause-ids
returns-clause-ids c = keeps_there c.args.self.now (names_of c.self.inside.names) c.self.inside.nodes.keys c.write.new.nodes.keys c.self.view_is c.write.ensures.more
