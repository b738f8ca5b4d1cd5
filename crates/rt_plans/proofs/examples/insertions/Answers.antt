use Rattle.std.proofs.Common.{refl}
use Rattle.rt_plans.proofs.examples.insertions.Goals as goal

pub returns-clause-further : goal.returns-clause-further
returns-clause-further c = refl
