use Rattle.rt_tree.proofs.Showing.{fresh_agrees, later_agrees}
use Rattle.rt_tree.proofs.store.TreeStoreTextStore.set_gone.Goals as goal

pub invariant_of-self-clause-later : goal.invariant_of-self-clause-later
invariant_of-self-clause-later c old new keeps agrees = later_agrees old new c.set_gone.new.self keeps c.set_gone.ensures.own agrees

pub invariant_of-self-clause-fresh : goal.invariant_of-self-clause-fresh
invariant_of-self-clause-fresh c table is given =
    let e = c.set_gone.ensures in
    fresh_agrees c.args.states.now table c.set_gone.new.self e.own e.agrees.right is given
