use Rattle.rt_holding.proofs.Arrivals.{comes_to_the_same, stamp_order}
use Rattle.rt_holding.proofs.laws.arrivals.Goals as goal

pub returns-clause-same : goal.returns-clause-same
returns-clause-same c = comes_to_the_same

pub returns-clause-order : goal.returns-clause-order
returns-clause-order c = stamp_order
