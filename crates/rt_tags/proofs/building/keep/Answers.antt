use Rattle.std.proofs.Common.{subst, sym}
use Rattle.rt_tags.specs.SharedStates.{AreBelow}
use Rattle.rt_tags.proofs.building.keep.Goals as goal

pub returns-clause-below : goal.returns-clause-below
returns-clause-below c = λ n old is. c.add.ensures.below n (subst (AreBelow n) (sym c.in_ok-reserve.ensures.keys) old) is
