use Rattle.rt_script.proofs.Living.{run_lives, script_on}
use Rattle.rt_script.proofs.laws.runs.Goals as goal

pub returns-clause-lives : goal.returns-clause-lives
returns-clause-lives c = run_lives

pub returns-clause-scripts : goal.returns-clause-scripts
returns-clause-scripts c = script_on
