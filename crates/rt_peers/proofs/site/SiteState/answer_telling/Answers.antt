use Rattle.std.proofs.Common.{◌≡◌, ◌∙◌, ℕ, Err, Option, ap, inr, refl, subst, sym}
use Rattle.std.specs.Prelude.{IfErr}
use Rattle.rt_stamps.specs.declared.fault.Fault.TheVariants.{NoWidget}
use Rattle.rt_peers.specs.SiteStep.{AnswersInTurn, at_widget, step_at, widget_step}
use Rattle.rt_peers.specs.SiteValue.{number_of_path}
use Rattle.rt_peers.proofs.InTurn.{at_once}
use Rattle.rt_peers.proofs.PeerLaws.{place_in}
use Rattle.rt_peers.proofs.Telling.{none_told}
use Rattle.rt_peers.proofs.site.SiteState.answer_telling.Goals as goal

pub returns-in_default-clause-answers : goal.returns-in_default-clause-answers
returns-in_default-clause-answers c =
    let found : number_of_path c.args.path.now c.args.self.now.paths ≡ c.number_of.result =
    place_in c.args.path.now c.deref.result.now c.self.inside.paths.items c.args.self.now.paths c.number_of.result c.number_of.ensures c.deref.ensures.value
    (ap (λ s. s.paths) c.self.view_is) in
    at_once (step_at c.args.path.now c.args.self.now c.args.request.now) c.args.self.now (Err NoWidget)
    (refl, inr (ap (λ o. at_widget o (λ number. widget_step c.args.path.now number c.args.self.now c.args.request.now)) (found ∙ c.in_default.is)))

pub returns-in_default-clause-told : goal.returns-in_default-clause-told
returns-in_default-clause-told c = (none_told c.args.self.now.text c.new.result.items c.new.ensures.items).told

pub returns-clause-answers : goal.returns-clause-answers
returns-clause-answers c =
    let found : number_of_path c.args.path.now c.args.self.now.paths ≡ c.number_of.result =
    place_in c.args.path.now c.deref.result.now c.self.inside.paths.items c.args.self.now.paths c.number_of.result c.number_of.ensures c.deref.ensures.value
    (ap (λ s. s.paths) c.self.view_is) in
    subst (λ (o : Option ℕ). AnswersInTurn (at_widget o (λ number. widget_step c.args.path.now number c.args.self.now c.args.request.now)) c.args.self.now
    c.request_telling.result.reply c.request_telling.new.self) (sym (found ∙ c.in-Some.is)) c.request_telling.ensures.answers

pub returns-in_default-clause-memory : goal.returns-in_default-clause-memory
returns-in_default-clause-memory c = λ none.
    let found : number_of_path c.args.path.now c.args.self.now.paths ≡ c.number_of.result =
    place_in c.args.path.now c.deref.result.now c.self.inside.paths.items c.args.self.now.paths c.number_of.result c.number_of.ensures c.deref.ensures.value
    (ap (λ s. s.paths) c.self.view_is) in
    ap (λ o. at_widget o (λ number. widget_step c.args.path.now number c.args.self.now c.args.request.now)) (found ∙ c.in_default.is)

pub returns-clause-memory : goal.returns-clause-memory
returns-clause-memory c = λ none.
    let found : number_of_path c.args.path.now c.args.self.now.paths ≡ c.number_of.result =
    place_in c.args.path.now c.deref.result.now c.self.inside.paths.items c.args.self.now.paths c.number_of.result c.number_of.ensures c.deref.ensures.value
    (ap (λ s. s.paths) c.self.view_is) in
    subst (λ (o : Option ℕ). IfErr c.request_telling.result.reply (λ fault. at_widget o (λ number. widget_step c.args.path.now number c.args.self.now c.args.request.now) ≡ Err fault))
    (sym (found ∙ c.in-Some.is)) (c.request_telling.ensures.memory none)
