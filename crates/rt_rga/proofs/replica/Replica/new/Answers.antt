use Rattle.std.proofs.Common.{rules, [], ◌∷◌, arith, subst, sym}
use Rattle.rt_store.specs.Cells.{final_cell}
use Rattle.rt_store.specs.Tagged.{AreStates}
use Rattle.rt_store.proofs.GivenStates.{one_state}
use Rattle.rt_tags.specs.States.{IsState, TagStates}
use Rattle.rt_rga.proofs.replica.Replica.new.Goals as goal

pub invariant_of-result : goal.invariant_of-result
invariant_of-result g c =
    let empty : TagStates = record { names = []; states = [] ∷ [] } in
    let zero : IsState empty 0 = omega arith in
    let given : AreStates c.in_ok-states.states (final_cell ∷ []) = subst (λ (t : TagStates). AreStates t (final_cell ∷ [])) (sym c.in_ok-states.ensures.ok) (one_state empty final_cell zero) in
    record { within = search rules; agrees = g.met.S.TextStore.fresh c.args.store c.in_ok-states.states c.requires.store given; noted = tt }
