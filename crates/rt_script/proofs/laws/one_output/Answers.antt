use Rattle.rt_script.proofs.OneOutput.{lines_once, one_output}
use Rattle.rt_script.proofs.laws.one_output.Goals as goal

pub returns-clause-lines : goal.returns-clause-lines
returns-clause-lines c = lines_once

pub returns-clause-runs : goal.returns-clause-runs
returns-clause-runs c = one_output
