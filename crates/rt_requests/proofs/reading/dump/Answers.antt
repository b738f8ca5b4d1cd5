use Rattle.std.proofs.Common.{◌∙◌, sym}
use Rattle.rt_requests.specs.Asking.{asked_elements}
use Rattle.rt_requests.proofs.Counting.{by_parts}
use Rattle.rt_requests.proofs.reading.dump.Goals as goal

pub returns : goal.returns
returns c = c.elements.ensures ∙ sym (by_parts asked_elements c.args.words.now c.switches_len-switches.result _ c.switches_len-switches.ensures.value)
