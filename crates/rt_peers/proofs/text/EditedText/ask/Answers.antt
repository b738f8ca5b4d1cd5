use Rattle.std.proofs.Common.{◌∙◌, ap, arith, length}
use Rattle.rt_text.specs.Widgets.{widgets_of}
use Rattle.rt_peers.specs.Step.{step}
use Rattle.rt_peers.proofs.InTurn.{asked_answers}
use Rattle.rt_peers.proofs.PeerLaws.{led_number}
use Rattle.rt_peers.proofs.Staying.{answer_stays}
use Rattle.rt_peers.proofs.TakesNone.{refused_leading}
use Rattle.rt_peers.proofs.text.EditedText.ask.Goals as goal

pub lead-requires-2 : goal.lead-requires-2
lead-requires-2 c =
    let stays = answer_stays c.lead.new.self c.args.request.now c.request-reply.result c.request-reply.new.self c.request-reply.ensures.answers in
    let led = ap (λ t. length (widgets_of t.view)) c.lead.ensures ∙ led_number c.args.self.now.view c.args.number in
    omega (arith, stays.number, led, c.requires)

pub returns-clause-answers : goal.returns-clause-answers
returns-clause-answers c =
    asked_answers c.args.number c.args.request.now c.args.self.now c.lead.new.self c.request-reply.new.self c.lead-2.new.self c.request-reply.result
    c.lead.ensures c.request-reply.ensures.answers c.lead-2.ensures

pub returns-clause-memory : goal.returns-clause-memory
returns-clause-memory c = λ none.
    refused_leading c.args.number c.args.self.now c.lead.new.self (λ text. step text c.args.request.now) c.request-reply.result c.lead.ensures (c.request-reply.ensures.memory none)
