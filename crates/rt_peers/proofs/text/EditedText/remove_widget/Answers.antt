use Rattle.rt_peers.proofs.Growing.{settled_without}
use Rattle.rt_peers.proofs.text.EditedText.remove_widget.Goals as goal

pub invariant_of-self : goal.invariant_of-self
invariant_of-self c = settled_without c.self.inside.view c.remove_at.new.view c.args.number c.self.inside.recorder c.remove_at.ensures c.self.invariant
