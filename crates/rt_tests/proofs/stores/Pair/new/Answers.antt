use Rattle.std.proofs.Common.{arith}
use Rattle.rt_store.specs.Cells.{final_cell}
use Rattle.rt_store.proofs.GivenStates.{one_state}
use Rattle.rt_tests.proofs.stores.Pair.new.Goals as goal

pub invariant_of-result-clause-tree_given : goal.invariant_of-result-clause-tree_given
invariant_of-result-clause-tree_given c =
    let table = c.with.new.self in let given = c.in_ok-tagged.ensures.given in
    c.in_ok-tree.ensures.agrees table (one_state table final_cell (omega (arith, given)))
