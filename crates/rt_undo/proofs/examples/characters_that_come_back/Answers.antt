use Rattle.std.proofs.Common.{refl}
use Rattle.rt_undo.proofs.examples.characters_that_come_back.Goals as goal

pub returns-clause-below : goal.returns-clause-below
returns-clause-below c = refl

pub returns-clause-in_hand : goal.returns-clause-in_hand
returns-clause-in_hand c = refl

pub returns-clause-others : goal.returns-clause-others
returns-clause-others c = refl
