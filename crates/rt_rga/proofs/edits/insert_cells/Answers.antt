use Rattle.std.proofs.Common.{◌∙◌, ◌++◌, ℕ, List, ap, sym, subst, arith, length, refl}
use Rattle.rt_store.specs.declared.cell.Cell.{Cell}
use Rattle.rt_store.specs.Cells.{cells_from}
use Rattle.rt_store.specs.Tagged.{AreStates}
use Rattle.rt_rga.proofs.Replicas.{all_from_states}
use Rattle.rt_store.proofs.Places.{length_from}
use Rattle.std.proofs.lemmas.Result.{err_from_is_err_and}
use Rattle.rt_rga.proofs.edits.insert_cells.Goals as goal

pub reserve-requires : goal.reserve-requires
reserve-requires g c =
    let cells = c.in_ok-add.ensures.cells ∙ ap (λ (cells : List (Cell ℕ)). cells ++ cells_from c.args.stamp.count c.args.stamp.site c.in_ok-state.state c.args.text.now) c.none-new.ensures in
    omega (arith, c.requires.room, ap length (c.as_slice-cells.ensures ∙ cells), length_from c.args.stamp.count c.args.stamp.site c.in_ok-state.state c.args.text.now)

pub splice-requires-clause-states : goal.splice-requires-clause-states
splice-requires-clause-states g c =
    c.reserve.ensures.agrees c.state_of_list.new.self (g.met.S.TextStore.grows c.args.store.now c.args.states.now c.state_of_list.new.self c.state_of_list.ensures.ids c.requires.states)

pub splice-requires-clause-new : goal.splice-requires-clause-new
splice-requires-clause-new g c =
    let cells = c.in_ok-add.ensures.cells ∙ ap (λ (cells : List (Cell ℕ)). cells ++ cells_from c.args.stamp.count c.args.stamp.site c.in_ok-state.state c.args.text.now) c.none-new.ensures in
    subst (AreStates c.state_of_list.new.self) (sym (c.as_slice-cells.ensures ∙ cells))
    (all_from_states c.state_of_list.new.self c.args.stamp.count c.args.stamp.site c.in_ok-state.state c.args.text.now c.in_ok-state.ensures.given)

pub returns-in_err-state : goal.returns-in_err-state
returns-in_err-state g c =
    let (y, is, gives) = err_from_is_err_and c.from_residual.result c.from_residual.ensures.1 in
    rw (is, gives) (record { given = tt; state = tt; list = tt; agrees = g.met.S.TextStore.grows c.args.store.now c.args.states.now c.state_of_list.new.self c.state_of_list.ensures.ids c.requires.states; ids = c.state_of_list.ensures.ids; err = refl; fault = c.in_err-state.ensures.fault })

pub returns-in_err-add : goal.returns-in_err-add
returns-in_err-add g c =
    let (y, is, gives) = err_from_is_err_and c.from_residual-in_err-add.result c.from_residual-in_err-add.ensures.1 in
    rw (is, gives) (record { given = tt; state = tt; list = tt; agrees = g.met.S.TextStore.grows c.args.store.now c.args.states.now c.state_of_list.new.self c.state_of_list.ensures.ids c.requires.states; ids = c.state_of_list.ensures.ids; err = refl; fault = c.in_err-add.ensures.fault })

pub returns-in_err-reserve : goal.returns-in_err-reserve
returns-in_err-reserve g c =
    let (y, is, gives) = err_from_is_err_and c.from_residual-in_err-reserve.result c.from_residual-in_err-reserve.ensures.1 in
    rw (is, gives) (record { given = tt; state = tt; list = tt; agrees = c.reserve.ensures.agrees c.state_of_list.new.self (g.met.S.TextStore.grows c.args.store.now c.args.states.now c.state_of_list.new.self c.state_of_list.ensures.ids c.requires.states); ids = c.state_of_list.ensures.ids; err = c.reserve.ensures.same; fault = c.in_err-reserve.ensures.err })
