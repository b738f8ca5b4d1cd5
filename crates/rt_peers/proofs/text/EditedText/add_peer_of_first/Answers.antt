use Rattle.std.proofs.Common.{subst, sym}
use Rattle.rt_recording.specs.Settled.{IsSettled}
use Rattle.rt_text.specs.Widgets.{ViewValue}
use Rattle.rt_peers.proofs.OptionLaws.{one_more}
use Rattle.rt_peers.proofs.Growing.{settled_with}
use Rattle.rt_peers.proofs.text.EditedText.add_peer_of_first.Goals as goal

pub invariant_of-self : goal.invariant_of-self
invariant_of-self c = subst (λ (v : ViewValue). IsSettled v c.self.inside.recorder) (sym c.in_err-add_peer.ensures.unchanged) c.self.invariant

pub invariant_of-self-2 : goal.invariant_of-self-2
invariant_of-self-2 c =
    let view = c.self.inside.view in
    let start = c.choice_of-start.result in
    let end = c.choice_of-end.result in
    let said = c.in_ok-add_peer.ensures.ok in
    settled_with view c.add_peer.new.self c.self.inside.recorder (one_more view c.add_peer.new.self start end said).0 c.self.invariant
