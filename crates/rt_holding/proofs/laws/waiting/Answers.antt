use Rattle.rt_holding.proofs.Due.{left_ones_stay}
use Rattle.rt_holding.proofs.Looking.{looks_are_enough}
use Rattle.rt_holding.proofs.Waiting.{unpassed_stay}
use Rattle.rt_holding.proofs.laws.waiting.Goals as goal

pub returns-clause-unpassed : goal.returns-clause-unpassed
returns-clause-unpassed c = unpassed_stay

pub returns-clause-looks : goal.returns-clause-looks
returns-clause-looks c = looks_are_enough

pub returns-clause-left : goal.returns-clause-left
returns-clause-left c = left_ones_stay
