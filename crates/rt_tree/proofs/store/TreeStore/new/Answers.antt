use Rattle.std.proofs.Common.{sym, subst}
use Rattle.rt_store.specs.Tagged.{AreStates}
use Rattle.rt_tree.proofs.Showing.{later_agrees}
use Rattle.rt_tree.proofs.store.TreeStore.new.Goals as goal

pub invariant_of-result-clause-later : goal.invariant_of-result-clause-later
invariant_of-result-clause-later c old new keeps agrees = later_agrees old new c.in_ok-tree.tree keeps c.in_ok-tree.ensures.own agrees

pub invariant_of-result-clause-fresh : goal.invariant_of-result-clause-fresh
invariant_of-result-clause-fresh c table is given = record { given = subst (AreStates table) (sym is) given; right = c.in_ok-tree.ensures.right table }

pub returns-clause-agrees : goal.returns-clause-agrees
returns-clause-agrees c table given = record { given = subst (AreStates table) (sym c.in_ok-tree.ensures.cells) given; right = c.in_ok-tree.ensures.right table }
