use Rattle.rt_oplog.proofs.ReadBack.{accepted, same_log}
use Rattle.rt_oplog.proofs.laws.logs.Goals as goal

pub returns-clause-accepted : goal.returns-clause-accepted
returns-clause-accepted c = accepted

pub returns-clause-same : goal.returns-clause-same
returns-clause-same c = same_log
