use Rattle.std.proofs.Common.{◌≡◌, [], ℕ, subst}
use Rattle.std.proofs.lemmas.Option.{slice_get_within}
use Rattle.rt_tags.specs.Seen.{names_of}
use Rattle.rt_tags.specs.SharedStates.{empty_node}
use Rattle.rt_tags.specs.States.{TagStates, AreNumbered, IsByName, IsState, IsTag, name_at, state_at}
use Rattle.rt_tags.proofs.Entries.{one_place}
use Rattle.rt_tags.proofs.Keeping.{by_name_at, first_state, given_new, nowhere_on, one_state_id}
use Rattle.rt_tags.proofs.states.StateTable.order.Goals as goal

pub returns-clause-numbers : goal.returns-clause-numbers
returns-clause-numbers c =
    subst (λ (t : TagStates). (a b : ℕ) → IsTag t a → IsTag t b → name_at t a ≡ name_at t b → a ≡ b) c.self.view_is
    (λ a b h k e. one_place (names_of c.self.inside.names) a b c.self.invariant.names_differ h k e)

pub returns-clause-nowhere : goal.returns-clause-nowhere
returns-clause-nowhere c =
    subst (λ (t : TagStates). AreNumbered t) c.self.view_is
    (λ name state new. nowhere_on (names_of c.self.inside.names) c.self.inside.nodes.keys c.self.invariant name state new)

pub returns-clause-ids : goal.returns-clause-ids
returns-clause-ids c =
    subst (λ (t : TagStates). (a b : ℕ) → IsState t a → IsState t b → state_at t a ≡ state_at t b → a ≡ b) c.self.view_is
    (λ a b h k e. one_state_id (names_of c.self.inside.names) c.self.inside.nodes.keys c.self.invariant a b h k e)

pub returns-clause-by_name : goal.returns-clause-by_name
returns-clause-by_name c =
    subst (λ (t : TagStates). (state : ℕ) → IsState t state → IsByName (state_at t state)) c.self.view_is
    (λ state h. by_name_at (names_of c.self.inside.names) c.self.inside.nodes.keys c.self.invariant state)

pub returns-clause-given : goal.returns-clause-given
returns-clause-given c =
    subst (λ (t : TagStates). IsState t 0) c.self.view_is
    (given_new (names_of c.self.inside.names) c.self.inside.nodes.keys 0 (slice_get_within c.self.inside.nodes.keys 0 empty_node c.self.invariant.shared.first))

pub returns-clause-empty : goal.returns-clause-empty
returns-clause-empty c =
    subst (λ (t : TagStates). state_at t 0 ≡ []) c.self.view_is
    (first_state (names_of c.self.inside.names) c.self.inside.nodes.keys c.self.invariant)
