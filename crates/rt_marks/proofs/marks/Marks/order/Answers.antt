use Rattle.std.proofs.Common.{subst}
use Rattle.rt_marks.specs.Marks.{AreInOrder, HaveOwnNames}
use Rattle.rt_marks.specs.Tables.{slots_of}
use Rattle.rt_marks.proofs.Slots.{view_own}
use Rattle.rt_marks.proofs.marks.Marks.order.Goals as goal

pub returns-clause-in_order : goal.returns-clause-in_order
returns-clause-in_order c = subst AreInOrder c.self.view_is c.self.invariant.ordered

pub returns-clause-own_names : goal.returns-clause-own_names
returns-clause-own_names c = subst HaveOwnNames c.self.view_is (view_own (slots_of c.self.inside.table) _ _ c.self.invariant)
