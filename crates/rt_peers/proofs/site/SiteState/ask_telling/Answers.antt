use Rattle.std.proofs.Common.{◌≡◌, Err, ap, arith, inr, refl, subst, sym}
use Rattle.std.specs.Prelude.{IfErr}
use Rattle.rt_stamps.specs.declared.fault.Fault.TheVariants.{NoWidget}
use Rattle.rt_peers.specs.Numbered.{step_by}
use Rattle.rt_peers.specs.SiteStep.{AnswersInTurn}
use Rattle.rt_peers.specs.SiteValue.{SiteValue}
use Rattle.rt_peers.specs.ViewStep.{Outcome}
use Rattle.rt_peers.proofs.InTurn.{at_once}
use Rattle.rt_peers.proofs.Numbered.{is_nowhere, is_there, step_nowhere, step_there}
use Rattle.rt_peers.proofs.Telling.{none_told}
use Rattle.rt_peers.proofs.site.SiteState.ask_telling.Goals as goal

pub returns-then-number-len-clause-answers : goal.returns-then-number-len-clause-answers
returns-then-number-len-clause-answers c =
    let state = c.args.self.now in
    let gone = is_nowhere c.args.number c.self.inside.paths.items c.args.self.now.paths (ap (λ (s : SiteValue). s.paths) c.self.view_is) (omega (arith, c.len.ensures, c.if-number-len.true)) in
    at_once (step_by c.args.number state c.args.request.now) state (Err NoWidget) (refl, inr (step_nowhere c.args.number state c.args.request.now gone))

pub returns-then-number-len-clause-told : goal.returns-then-number-len-clause-told
returns-then-number-len-clause-told c = none_told c.args.self.now.text c.new.result.items c.new.ensures.items

pub ask_text_telling-requires : goal.ask_text_telling-requires
ask_text_telling-requires c = is_there c.args.number c.self.inside.paths.items c.args.self.now.paths (ap (λ (s : SiteValue). s.paths) c.self.view_is) (omega (arith, c.len.ensures, c.if-number-len.false))

pub returns-clause-answers : goal.returns-clause-answers
returns-clause-answers c =
    let state = c.args.self.now in
    let there = is_there c.args.number c.self.inside.paths.items c.args.self.now.paths (ap (λ (s : SiteValue). s.paths) c.self.view_is) (omega (arith, c.len.ensures, c.if-number-len.false)) in
    subst (λ (o : Outcome SiteValue). AnswersInTurn o state c.ask_text_telling.result.reply c.ask_text_telling.new.self)
    (sym (step_there c.args.number state c.args.request.now there)) c.ask_text_telling.ensures.answers

pub returns-then-number-len-clause-memory : goal.returns-then-number-len-clause-memory
returns-then-number-len-clause-memory c = λ none.
    let gone = is_nowhere c.args.number c.self.inside.paths.items c.args.self.now.paths (ap (λ (s : SiteValue). s.paths) c.self.view_is) (omega (arith, c.len.ensures, c.if-number-len.true)) in
    step_nowhere c.args.number c.args.self.now c.args.request.now gone

pub returns-clause-none : goal.returns-clause-none
returns-clause-none c = λ gone.
    let there = is_there c.args.number c.self.inside.paths.items c.args.self.now.paths (ap (λ (s : SiteValue). s.paths) c.self.view_is) (omega (arith, c.len.ensures, c.if-number-len.false)) in
    absurd (omega (arith, there, gone))

pub returns-clause-memory : goal.returns-clause-memory
returns-clause-memory c = λ none.
    let state = c.args.self.now in
    let there = is_there c.args.number c.self.inside.paths.items c.args.self.now.paths (ap (λ (s : SiteValue). s.paths) c.self.view_is) (omega (arith, c.len.ensures, c.if-number-len.false)) in
    subst (λ (o : Outcome SiteValue). IfErr c.ask_text_telling.result.reply (λ fault. o ≡ Err fault)) (sym (step_there c.args.number state c.args.request.now there))
    (c.ask_text_telling.ensures.memory none)
