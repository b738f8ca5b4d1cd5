use Rattle.rt_peers.proofs.Growing.{settled_led}
use Rattle.rt_peers.proofs.text.EditedText.lead.Goals as goal

pub invariant_of-self : goal.invariant_of-self
invariant_of-self c = settled_led c.self.inside.view c.lead.new.view c.args.number c.self.inside.recorder c.lead.ensures c.self.invariant
