use Rattle.std.proofs.Common.{◌≡◌, ◌∙◌, ℕ, Err, List, Result, ap, arith, drop, length, map, reverse, subst, sym}
use Rattle.std.specs.Prelude.{IfErr}
use Rattle.std.proofs.lemmas.Option.{IfSome_then}
use Rattle.rt_changes.specs.Telling.{changes_in}
use Rattle.rt_recording.specs.EditedValue.{EditedValue, edited}
use Rattle.rt_recording.specs.Recordings.{Recording}
use Rattle.rt_requests.specs.declared.request.Request.{Request}
use Rattle.rt_rga.specs.Drafts.{operations_of}
use Rattle.rt_stamps.specs.declared.fault.Fault.{Fault}
use Rattle.rt_stamps.specs.Outcomes.{Answers}
use Rattle.rt_stamps.specs.Words.{Word}
use Rattle.rt_text.specs.Widgets.{ViewValue}
use Rattle.rt_peers.specs.SiteStep.{by_leading, text_log}
use Rattle.rt_peers.specs.Step.{step}
use Rattle.rt_peers.specs.Telling.{AreToldInTurn, each_change}
use Rattle.rt_peers.specs.ViewStep.{Outcome}
use Rattle.rt_peers.proofs.InTurn.{asked_steps}
use Rattle.rt_peers.proofs.Making.{operations_longer}
use Rattle.rt_peers.proofs.Noting.{own_in_turn}
use Rattle.rt_peers.proofs.text.EditedText.ask_telling.Goals as goal

-- what is asked of a text that notes what it changes, is asked of the text
asked : (number : ℕ) (request : Request) (old new : EditedValue) (view noting : ViewValue) (recording : Recording) (result : Result (List Word) Fault)
    → noting ≡ view → edited view recording ≡ old
    → Answers (by_leading number (edited noting recording) (λ text. step text request)) (edited noting recording) result new
    → Answers (by_leading number old (λ text. step text request)) old result new
asked number request old new view noting recording result same is h =
    subst (λ (t : EditedValue). Answers (by_leading number t (λ text. step text request)) t result new) (ap (λ (v : ViewValue). edited v recording) same ∙ is) h

pub noted_from-changes-requires : goal.noted_from-changes-requires
noted_from-changes-requires c =
    let old = c.args.self.now in
    let new = c.ask-reply.new.self in
    let answers = asked c.args.number c.args.request.now old new c.self.inside.view c.note.new.self c.self.inside.recorder c.ask-reply.result
    c.note.ensures c.self.view_is c.ask-reply.ensures.answers in
    let gains = (asked_steps c.args.number c.args.request.now old new c.ask-reply.result answers).gains in
    let more = operations_longer (operations_of old.view.doc.site gains.drafts (text_log old)) (text_log old) in
    omega (arith, c.len-before.ensures, ap length c.log.ensures.operations, ap length gains.log, more)

pub returns-clause-answers : goal.returns-clause-answers
returns-clause-answers c =
    let old = c.args.self.now in
    let answers = asked c.args.number c.args.request.now old c.ask-reply.new.self c.self.inside.view c.note.new.self c.self.inside.recorder c.ask-reply.result
    c.note.ensures c.self.view_is c.ask-reply.ensures.answers in
    subst (Answers (by_leading c.args.number old (λ text. step text c.args.request.now)) old c.ask-reply.result) (sym c.noted_from-changes.ensures.same) answers

pub returns-clause-told : goal.returns-clause-told
returns-clause-told c =
    let old = c.args.self.now in
    let new = c.ask-reply.new.self in
    let answers = asked c.args.number c.args.request.now old new c.self.inside.view c.note.new.self c.self.inside.recorder c.ask-reply.result
    c.note.ensures c.self.view_is c.ask-reply.ensures.answers in
    let gains = (asked_steps c.args.number c.args.request.now old new c.ask-reply.result answers).gains in
    let before : c.len-before.result ≡ length (text_log old) = c.len-before.ensures ∙ ap length c.log.ensures.operations in
    IfSome_then c.noted_from-changes.result c.noted_from-changes.ensures.told
    (λ changes told. subst (λ (t : EditedValue). AreToldInTurn (text_log old) (text_log t) (map changes_in changes.items)) (sym c.noted_from-changes.ensures.same)
    (own_in_turn old.view.doc.site gains.drafts (text_log old) (text_log new) (map changes_in changes.items) gains.log c.log-2.ensures.history
    (told ∙ ap (λ n. drop n (reverse (each_change (text_log new)))) before)))

pub returns-clause-memory : goal.returns-clause-memory
returns-clause-memory c = λ none.
    let does : EditedValue → Outcome EditedValue = λ text. step text c.args.request.now in
    let same = ap (λ (v : ViewValue). edited v c.self.inside.recorder) c.note.ensures ∙ c.self.view_is in
    subst (λ (t : EditedValue). IfErr c.ask-reply.result (λ fault. by_leading c.args.number t does ≡ Err fault)) same (c.ask-reply.ensures.memory none)
