use Rattle.rt_holding.proofs.Ample.{ample_greatest, ample_runs, ample_stay}
use Rattle.rt_holding.proofs.laws.ample_memory.Goals as goal

pub returns-clause-runs : goal.returns-clause-runs
returns-clause-runs c = ample_runs

pub returns-clause-stay : goal.returns-clause-stay
returns-clause-stay c = ample_stay

pub returns-clause-greatest : goal.returns-clause-greatest
returns-clause-greatest c = ample_greatest
