use Rattle.std.proofs.Common.{◌≡◌, ◌+◌, ◌≤◌, ◌∙◌, Bool, ap, arith, length, refl, subst, sym}
use Rattle.rt_tags.specs.Borders.{beyond}
use Rattle.rt_tags.specs.Seen.{names_of}
use Rattle.rt_tags.specs.SharedStates.{at_id, puts_on, setting_of}
use Rattle.rt_tags.specs.States.{TagStates}
use Rattle.rt_tags.specs.Toggles.{TagCounts, count_of}
use Rattle.rt_tags.proofs.Keeping.{has_is, off_past, place_given}
use Rattle.rt_tags.proofs.states.StateTable.count_beyond.Goals as goal

pub add_beyond-requires-clause-here : goal.add_beyond-requires-clause-here
add_beyond-requires-clause-here c = place_given (names_of c.self.inside.names) c.self.inside.nodes.keys c.self.invariant c.args.self.now c.self.view_is c.here.inside.place c.args.here c.here.view_is c.requires.here

pub add_beyond-requires-clause-there : goal.add_beyond-requires-clause-there
add_beyond-requires-clause-there c = place_given (names_of c.self.inside.names) c.self.inside.nodes.keys c.self.invariant c.args.self.now c.self.view_is c.there.inside.place c.args.there c.there.view_is c.requires.there

pub returns-clause-given : goal.returns-clause-given
returns-clause-given c = λ tag given.
    let nodes = c.self.inside.nodes.keys in
    let a = has_is (names_of c.self.inside.names) nodes c.self.invariant c.args.self.now c.self.view_is c.here.inside.place c.args.here tag tag c.here.view_is refl given in
    let b = has_is (names_of c.self.inside.names) nodes c.self.invariant c.args.self.now c.self.view_is c.there.inside.place c.args.there tag tag c.there.view_is refl given in
    c.add_beyond.ensures.counts tag
    ∙ (ap (λ (t : TagCounts). count_of tag t + beyond (puts_on (setting_of (at_id nodes c.here.inside.place) tag)) (puts_on (setting_of (at_id nodes c.there.inside.place) tag))) c.counts.view_is
    ∙ (λ j. count_of tag c.args.counts.now + beyond (a j) (b j)))

pub returns-clause-others : goal.returns-clause-others
returns-clause-others c = λ tag more.
    let nodes = c.self.inside.nodes.keys in
    let past = subst (λ (t : TagStates). length t.names ≤ tag) (sym c.self.view_is) more in
    let off = off_past (names_of c.self.inside.names) nodes c.self.invariant c.here.inside.place tag past in
    let there = puts_on (setting_of (at_id nodes c.there.inside.place) tag) in
    let none : beyond (puts_on (setting_of (at_id nodes c.here.inside.place) tag)) there ≡ 0 = ap (λ (b : Bool). beyond b there) off in
    let e = c.add_beyond.ensures.counts tag in
    let same = ap (λ (t : TagCounts). count_of tag t) c.counts.view_is in
    omega (arith, e, none, same)
