use Rattle.std.proofs.Common.{subst}
use Rattle.rt_recording.specs.Noting.{IsOfLog}
use Rattle.rt_peers.specs.ViewStep.{mark_step}
use Rattle.rt_peers.proofs.Growing.{mark_grows, view_settled}
use Rattle.rt_peers.proofs.TakesNone.{refused_view}
use Rattle.rt_peers.proofs.text.EditedText.mark.Goals as goal

pub invariant_of-self : goal.invariant_of-self
invariant_of-self c =
    let view = c.self.inside.view in
    let new = c.mark-reply.new.view in
    let kept : IsOfLog view.doc = subst IsOfLog c.doc.ensures (record { history = c.log.ensures.history; cells = c.log.ensures.cells; count = c.log.ensures.count }) in
    let same : IsOfLog new.doc = subst IsOfLog c.doc-2.ensures (record { history = c.log-2.ensures.history; cells = c.log-2.ensures.cells; count = c.log-2.ensures.count }) in
    view_settled view new c.self.inside.recorder (mark_step view c.args.request.now) c.mark-reply.result c.mark-reply.ensures.answers (λ words h. mark_grows view new c.args.request.now words h)
    c.self.invariant kept same

pub returns-clause-memory : goal.returns-clause-memory
returns-clause-memory c = λ none.
    refused_view c.args.self.now c.self.inside.view c.self.inside.recorder c.self.view_is (λ view. mark_step view c.args.request.now) c.mark-reply.result (c.mark-reply.ensures.memory none)
