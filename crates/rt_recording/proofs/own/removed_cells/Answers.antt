use Rattle.rt_undo.specs.Actions.{removed_in}
use Rattle.rt_tags.proofs.Listing.{keeps_both}
use Rattle.rt_recording.proofs.Removals.{cell_more, given_more}
use Rattle.rt_recording.proofs.own.removed_cells.Goals as goal

pub loop-cell-preserved : goal.loop-cell-preserved
loop-cell-preserved c =
    let states = c.args.states.now in
    let old = c.loop-cell.table in
    let new = c.alike_state.new.table in
    let ids = c.in_ok-alike.ensures.ids in
    let cell = c.cell-item.result in
    let before = removed_in c.loop-cell.removed.items in
    let after = removed_in c.push_removed.new.removed.items in
    record {
      named = cell_more states old new before after c.args.cells.now c.loop-cell.cell-index cell c.in_ok-alike.alike c.loop-cell-test.true c.cell-item.is ids c.in_ok-alike.ensures.theirs c.in_ok-alike.ensures.alike c.loop-cell.invariant.given c.in_ok-push_removed.ensures.ok c.loop-cell.invariant.named;
      given = given_more states old new before after cell.stamp c.in_ok-alike.alike ids c.in_ok-alike.ensures.alike c.loop-cell.invariant.given c.in_ok-push_removed.ensures.ok;
      known = c.in_ok-alike.ensures.alike;
      ids = keeps_both c.args.table.now old new c.loop-cell.invariant.ids ids;
    }

pub returns-in_err-alike-clause-ids : goal.returns-in_err-alike-clause-ids
returns-in_err-alike-clause-ids c = keeps_both c.args.table.now c.loop-cell.table c.alike_state.new.table c.loop-cell.invariant.ids c.in_err-alike.ensures.ids

pub returns-in_err-push_removed-clause-ids : goal.returns-in_err-push_removed-clause-ids
returns-in_err-push_removed-clause-ids c = keeps_both c.args.table.now c.loop-cell.table c.alike_state.new.table c.loop-cell.invariant.ids c.in_ok-alike.ensures.ids
