use Rattle.rt_store.specs.Cells.{final_cell}
use Rattle.rt_store.proofs.GivenStates.{one_state}
use Rattle.rt_tests.proofs.store.past_greater_stamps.Goals as goal

pub goes_past-requires-2-clause-states : goal.goes_past-requires-2-clause-states
goes_past-requires-2-clause-states g c =
    let table = c.in_ok-states.states in
    c.in_ok-tree.ensures.agrees table (one_state table final_cell c.order.ensures.given)
