use Rattle.rt_tags.proofs.CountLaws.{known, within}
use Rattle.rt_tags.proofs.Together.{together}
use Rattle.rt_tags.proofs.laws.tag_counts.Goals as goal

pub returns-clause-known : goal.returns-clause-known
returns-clause-known c = known 0 0

pub returns-clause-within : goal.returns-clause-within
returns-clause-within c = within 0 0

pub returns-clause-together : goal.returns-clause-together
returns-clause-together c n = together n 0
