use Rattle.std.proofs.Common.{refl}
use Rattle.std.specs.Str.{chars}
use Rattle.rt_plans.proofs.examples.pieces.Goals as goal

pub returns-clause-lists : goal.returns-clause-lists
unfolding chars
returns-clause-lists c = refl

pub returns-clause-between : goal.returns-clause-between
unfolding chars
returns-clause-between c = refl

pub returns-clause-empty : goal.returns-clause-empty
unfolding chars
returns-clause-empty c = refl

pub returns-clause-sel : goal.returns-clause-sel
unfolding chars
returns-clause-sel c = refl
