use Rattle.rt_marks.proofs.InOrder.{in_order_same}
use Rattle.rt_marks.proofs.Names.{named_in_order, ordered_in_order}
use Rattle.rt_marks.proofs.laws.order_of_marks.Goals as goal

pub returns-clause-ordered : goal.returns-clause-ordered
returns-clause-ordered c = ordered_in_order

pub returns-clause-found : goal.returns-clause-found
returns-clause-found c = λ name marks h. named_in_order marks h name

pub returns-clause-unchanged : goal.returns-clause-unchanged
returns-clause-unchanged c = in_order_same
