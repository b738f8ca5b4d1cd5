use Rattle.rt_changes.proofs.Telling.{taken_exact, taken_replay, taken_within}
use Rattle.rt_changes.proofs.laws.taken.Goals as goal

pub returns-clause-replayed : goal.returns-clause-replayed
returns-clause-replayed c = taken_replay

pub returns-clause-within : goal.returns-clause-within
returns-clause-within c = taken_within

pub returns-clause-exact : goal.returns-clause-exact
returns-clause-exact c = taken_exact
