use Rattle.rt_store.specs.Cells.{final_cell}
use Rattle.rt_store.proofs.GivenStates.{one_state}
use Rattle.rt_revert.proofs.copying.fill.Goals as goal

pub set_state-requires-clause-states : goal.set_state-requires-clause-states
set_state-requires-clause-states g c =
    c.reserve.ensures.agrees c.args.kept.now (g.met.C.TextStore.fresh c.args.copy.now c.args.kept.now c.requires.empty (one_state c.args.kept.now final_cell c.order.ensures.given))
