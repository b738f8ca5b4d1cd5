use Rattle.rt_tags.proofs.Retelling.{retold}
use Rattle.rt_tags.proofs.laws.kept_toggles.Goals as goal

pub returns : goal.returns
returns c = retold
