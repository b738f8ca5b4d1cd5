use Rattle.std.proofs.Common.{[], subst, sym}
use Rattle.rt_peers.specs.SiteStep.{log_of}
use Rattle.rt_peers.specs.Telling.{AreToldOf}
use Rattle.rt_peers.proofs.Calls.{peer_keeps, peers_answer}
use Rattle.rt_peers.proofs.Telling.{none_in_turn, told_of}
use Rattle.rt_peers.proofs.site.SiteState.request_telling.Goals as goal

pub returns-in-Peer-clause-answers : goal.returns-in-Peer-clause-answers
returns-in-Peer-clause-answers c =
    rw c.in-Peer.is
    (peers_answer c.args.path.now c.args.number c.args.self.now c.peers-reply.new.self c.in-Peer.request c.peers-reply.result c.peers-reply.ensures)

pub returns-in-Peer-clause-told : goal.returns-in-Peer-clause-told
returns-in-Peer-clause-told c =
    let old = c.args.self.now in
    let new = c.peers-reply.new.self in
    let keeps = peer_keeps c.args.path.now c.args.number old new c.in-Peer.request c.peers-reply.result c.peers-reply.ensures in
    subst (AreToldOf old.text new.text) (sym c.new.ensures.items)
    (told_of old.text new.text [] c.log.ensures.history (none_in_turn (log_of old) (log_of new) keeps.log) c.log.ensures.cells c.log-in-Peer.ensures.cells)

pub returns-in-Peer-clause-memory : goal.returns-in-Peer-clause-memory
returns-in-Peer-clause-memory c = rw c.in-Peer.is (λ none. absurd (cc none))
