use Rattle.rt_requests.specs.Asking.{asked_distances}
use Rattle.rt_requests.proofs.Counting.{by_parts}
use Rattle.rt_requests.proofs.reading.count.Goals as goal

pub returns : goal.returns
returns c = rw (by_parts asked_distances c.args.words.now c.switches_len-switches.result _ c.switches_len-switches.ensures.value) c.distances.ensures
