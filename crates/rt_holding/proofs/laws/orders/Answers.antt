use Rattle.rt_holding.proofs.Accepted.{greatest_accepted, histories_accepted, sites_agree}
use Rattle.rt_holding.proofs.laws.orders.Goals as goal

pub returns-clause-greatest : goal.returns-clause-greatest
returns-clause-greatest c = greatest_accepted

pub returns-clause-agree : goal.returns-clause-agree
returns-clause-agree c = sites_agree

pub returns-clause-history : goal.returns-clause-history
returns-clause-history c = histories_accepted
