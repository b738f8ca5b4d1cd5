use Rattle.rt_store.proofs.Positions.{run_found, run_held}
use Rattle.rt_store.proofs.laws.runs.Goals as goal

pub returns-clause-held : goal.returns-clause-held
returns-clause-held c s cells first last n = run_held cells first last n

pub returns-clause-found : goal.returns-clause-found
returns-clause-found c s cells first last n = run_found cells first last n
