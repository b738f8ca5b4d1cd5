use Rattle.std.proofs.Common.{◌≡◌, Err, subst, sym}
use Rattle.std.specs.Prelude.{IfErr}
use Rattle.rt_peers.specs.SiteStep.{AnswersInTurn}
use Rattle.rt_peers.specs.ViewStep.{Outcome}
use Rattle.rt_peers.specs.SiteValue.{SiteValue}
use Rattle.rt_peers.proofs.Calls.{peers_answer}
use Rattle.rt_peers.proofs.InTurn.{of_text}
use Rattle.rt_peers.proofs.site.SiteState.request.Goals as goal

pub returns-in-Peer-clause-answers : goal.returns-in-Peer-clause-answers
returns-in-Peer-clause-answers c =
    rw c.in-Peer.is
    (peers_answer c.args.path.now c.args.number c.args.self.now c.peers.new.self c.in-Peer.request c.peers.result c.peers.ensures)

pub returns-in_default-clause-answers : goal.returns-in_default-clause-answers
returns-in_default-clause-answers c =
    subst (λ (o : Outcome SiteValue). AnswersInTurn o c.args.self.now c.ask_text.result c.ask_text.new.self)
    (sym (of_text c.args.path.now c.args.number c.args.self.now c.args.request.now c.in_default.not-Peer)) c.ask_text.ensures.answers

pub returns-in-Peer-clause-memory : goal.returns-in-Peer-clause-memory
returns-in-Peer-clause-memory c = rw c.in-Peer.is (λ none. absurd (cc none))

pub returns-in_default-clause-memory : goal.returns-in_default-clause-memory
returns-in_default-clause-memory c = λ none.
    subst (λ (o : Outcome SiteValue). IfErr c.ask_text.result (λ fault. o ≡ Err fault))
    (sym (of_text c.args.path.now c.args.number c.args.self.now c.args.request.now c.in_default.not-Peer)) (c.ask_text.ensures.memory none)
