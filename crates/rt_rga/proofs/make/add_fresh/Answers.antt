use Rattle.std.proofs.Common.{◌≡◌, ◌∙◌, ◌++◌, [], ap, sym, refl}
use Rattle.rt_stamps.specs.declared.stamp.TheConstants.{ROOT}
use Rattle.rt_ops.specs.Edits.{body_of}
use Rattle.rt_ops.specs.Operations.{Insert, stamp_of}
use Rattle.rt_store.specs.Cells.{cells_from}
use Rattle.rt_tags.specs.Writers.{listed_by, state_after}
use Rattle.rt_rga.proofs.Making.{fresh_given, fresh_more}
use Rattle.std.proofs.lemmas.Result.{err_from_is_err_and}
use Rattle.rt_stamps.specs.Words.{as_words}
use Rattle.rt_rga.proofs.make.add_fresh.Goals as goal

pub returns-in_ok-add-clause-cells : goal.returns-in_ok-add-clause-cells
returns-in_ok-add-clause-cells c =
    let at = c.stamp.result in
    let id = c.in_ok-state.state in
    let tags = as_words c.in-Insert.tags.items in
    let text = c.in-Insert.text in
    let body : c.args.op.now.body ≡ Insert c.in-Insert.after tags text = sym c.edit.ensures.body ∙ ap body_of c.in-Insert.is in
    fresh_more c.args.states.now c.state_of_list.new.self c.args.cells.now c.add.new.self (cells_from at.count at.site id text) (stamp_of c.args.op.now) at c.args.op.now.body c.in-Insert.after tags text id
    c.state_of_list.ensures.ids c.requires.given (c.in_ok-add.ensures.cells ∙ ap (λ t. c.args.cells.now ++ cells_from at.count at.site id t) c.characters.ensures)
    refl c.stamp.ensures body
    (c.in_ok-state.ensures.state ∙ ap (λ ts. state_after [] (listed_by ROOT (as_words ts))) c.deref.ensures.value)

pub returns-in_ok-add-clause-given : goal.returns-in_ok-add-clause-given
returns-in_ok-add-clause-given c =
    let at = c.stamp.result in
    let id = c.in_ok-state.state in
    fresh_given c.args.states.now c.state_of_list.new.self c.args.cells.now c.add.new.self (cells_from at.count at.site id c.in-Insert.text) at c.in-Insert.text id
    c.state_of_list.ensures.ids c.requires.given (c.in_ok-add.ensures.cells ∙ ap (λ t. c.args.cells.now ++ cells_from at.count at.site id t) c.characters.ensures)
    refl c.in_ok-state.ensures.given

pub returns-in_err-state : goal.returns-in_err-state
returns-in_err-state c =
    let (y, is, gives) = err_from_is_err_and c.from_residual.result c.from_residual.ensures.1 in
    rw (is, gives) (record { cells = tt; given = tt; same = refl; ids = c.state_of_list.ensures.ids; fault = c.in_err-state.ensures.fault })

pub returns-in_err-add : goal.returns-in_err-add
returns-in_err-add c =
    let (y, is, gives) = err_from_is_err_and c.from_residual-in_err-add.result c.from_residual-in_err-add.ensures.1 in
    rw (is, gives) (record { cells = tt; given = tt; same = c.in_err-add.ensures.same; ids = c.state_of_list.ensures.ids; fault = c.in_err-add.ensures.fault })

pub returns-in_ok-add-clause-fault : goal.returns-in_ok-add-clause-fault
returns-in_ok-add-clause-fault c = tt

pub returns-in_ok-add-clause-ids : goal.returns-in_ok-add-clause-ids
returns-in_ok-add-clause-ids c = c.state_of_list.ensures.ids
