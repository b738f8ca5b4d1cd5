use Rattle.rt_tree.proofs.Showing.{fresh_agrees, later_agrees}
use Rattle.rt_tree.proofs.store.TreeStoreTextStore.splice.Goals as goal

pub invariant_of-self-clause-later : goal.invariant_of-self-clause-later
invariant_of-self-clause-later c old new keeps agrees = later_agrees old new c.splice.new.self keeps c.splice.ensures.own agrees

pub invariant_of-self-clause-fresh : goal.invariant_of-self-clause-fresh
invariant_of-self-clause-fresh c table is given =
    let e = c.splice.ensures in
    fresh_agrees c.args.states.now table c.splice.new.self e.own e.agrees.right is given
