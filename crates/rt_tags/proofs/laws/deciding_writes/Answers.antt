use Rattle.rt_tags.proofs.Greatest.{decides, listed_by_root}
use Rattle.rt_tags.proofs.laws.deciding_writes.Goals as goal

pub returns-clause-greatest : goal.returns-clause-greatest
returns-clause-greatest c = decides

pub returns-clause-root : goal.returns-clause-root
returns-clause-root c = listed_by_root
