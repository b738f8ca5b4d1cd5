use Rattle.rt_requests.proofs.AskedAlways.{asked_always}
use Rattle.rt_requests.proofs.laws.reading_is_total.Goals as goal

pub returns : goal.returns
returns c = asked_always c.spelling_is_total.ensures.list
