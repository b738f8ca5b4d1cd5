use Rattle.rt_peers.proofs.Lived.{accepts_greatest, accepts_history, has_run}
use Rattle.rt_peers.proofs.laws.accepted.Goals as goal

pub returns-clause-greatest : goal.returns-clause-greatest
returns-clause-greatest c = accepts_greatest

pub returns-clause-history : goal.returns-clause-history
returns-clause-history c = accepts_history

pub returns-clause-holding : goal.returns-clause-holding
returns-clause-holding c = λ site limit state came lives. (has_run site limit state came lives).holding
