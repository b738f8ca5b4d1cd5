use Rattle.std.proofs.Common.{◌≡◌, ◌∙◌, ℕ, Err, Option, ap, inr, refl, subst, sym}
use Rattle.std.specs.Prelude.{IfErr}
use Rattle.rt_stamps.specs.declared.fault.Fault.TheVariants.{NoWidget}
use Rattle.rt_peers.specs.SiteStep.{AnswersInTurn, at_widget, step_at, widget_step}
use Rattle.rt_peers.specs.SiteValue.{number_of_path}
use Rattle.rt_peers.proofs.InTurn.{at_once}
use Rattle.rt_peers.proofs.PeerLaws.{place_in}
use Rattle.rt_peers.proofs.site.SiteState.answer.Goals as goal

pub returns-in_default : goal.returns-in_default
returns-in_default c =
    let found : number_of_path c.args.path.now c.args.self.now.paths ≡ c.number_of.result = place_in c.args.path.now c.deref.result.now c.self.inside.paths.items c.args.self.now.paths c.number_of.result c.number_of.ensures c.deref.ensures.value (ap (λ s. s.paths) c.self.view_is) in
    record {
      answers = at_once (step_at c.args.path.now c.args.self.now c.args.request.now) c.args.self.now (Err NoWidget)
          (refl, inr (ap (λ o. at_widget o (λ number. widget_step c.args.path.now number c.args.self.now c.args.request.now)) (found ∙ c.in_default.is)));
      none = λ h. refl;
      memory = λ h. ap (λ o. at_widget o (λ number. widget_step c.args.path.now number c.args.self.now c.args.request.now)) (found ∙ c.in_default.is);
    }

pub returns : goal.returns
returns c =
    let found : number_of_path c.args.path.now c.args.self.now.paths ≡ c.number_of.result = place_in c.args.path.now c.deref.result.now c.self.inside.paths.items c.args.self.now.paths c.number_of.result c.number_of.ensures c.deref.ensures.value (ap (λ s. s.paths) c.self.view_is) in
    record {
      answers = subst (λ (o : Option ℕ). AnswersInTurn (at_widget o (λ number. widget_step c.args.path.now number c.args.self.now c.args.request.now)) c.args.self.now c.request.result c.request.new.self) (sym (found ∙ c.in-Some.is)) c.request.ensures.answers;
      none = λ h. absurd (cc (found ∙ c.in-Some.is, h));
      memory = λ h. subst (λ (o : Option ℕ). IfErr c.request.result (λ fault. at_widget o (λ number. widget_step c.args.path.now number c.args.self.now c.args.request.now) ≡ Err fault))
          (sym (found ∙ c.in-Some.is)) (c.request.ensures.memory h);
    }
