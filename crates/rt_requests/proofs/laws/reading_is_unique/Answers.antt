use Rattle.rt_requests.proofs.AskedOnce.{asked_once}
use Rattle.rt_requests.proofs.laws.reading_is_unique.Goals as goal

pub returns : goal.returns
returns c = asked_once c.spelling_is_unique.ensures.list
