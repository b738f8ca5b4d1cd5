use Rattle.rt_rga.proofs.Texts.{listed_once, shared_listed, shared_on}
use Rattle.rt_rga.proofs.laws.shared_tags.Goals as goal

pub returns-clause-on : goal.returns-clause-on
returns-clause-on c = shared_on

pub returns-clause-listed : goal.returns-clause-listed
returns-clause-listed c = shared_listed

pub returns-clause-once : goal.returns-clause-once
returns-clause-once c = listed_once
