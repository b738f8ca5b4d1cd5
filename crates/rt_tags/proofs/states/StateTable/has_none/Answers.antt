use Rattle.std.proofs.Common.{◌≡◌, ◌∙◌, ℕ, [], ap, subst, sym}
use Rattle.rt_tags.specs.Seen.{names_of}
use Rattle.rt_tags.specs.SharedStates.{at_id, puts_on, setting_of}
use Rattle.rt_tags.specs.States.{TagStates, names_on, state_at}
use Rattle.rt_tags.proofs.Keeping.{nothing_on, place_given, something_on}
use Rattle.rt_tags.proofs.states.StateTable.has_none.Goals as goal

pub is_none_on-requires-clause-given : goal.is_none_on-requires-clause-given
is_none_on-requires-clause-given c = place_given (names_of c.self.inside.names) c.self.inside.nodes.keys c.self.invariant c.args.self.now c.self.view_is c.state.inside.place c.args.state c.state.view_is c.requires

pub returns-clause-yes : goal.returns-clause-yes
returns-clause-yes c = λ h.
    let nodes = c.self.inside.nodes.keys in
    subst (λ (v : TagStates). names_on (state_at v c.args.state) ≡ []) c.self.view_is
    (nothing_on (names_of c.self.inside.names) c.self.inside.nodes.keys c.self.invariant c.args.state (λ t. ap (λ (i : ℕ). puts_on (setting_of (at_id nodes i) t)) (sym c.state.view_is) ∙ c.is_none_on.ensures.yes h t))

pub returns-clause-no : goal.returns-clause-no
returns-clause-no c = λ h none.
    let nodes = c.self.inside.nodes.keys in
    let w = c.is_none_on.ensures.no h in
    something_on (names_of c.self.inside.names) c.self.inside.nodes.keys c.self.invariant c.args.state w.0 (ap (λ (i : ℕ). puts_on (setting_of (at_id nodes i) w.0)) (sym c.state.view_is) ∙ w.1)
    (subst (λ (v : TagStates). names_on (state_at v c.args.state) ≡ []) (sym c.self.view_is) none)
