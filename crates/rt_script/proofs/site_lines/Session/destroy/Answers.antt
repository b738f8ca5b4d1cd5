use Rattle.std.proofs.Common.{◌≡◌, Ok, Err, List, Result, ap, subst, sym}
use Rattle.rt_stamps.specs.declared.fault.Fault.{Fault}
use Rattle.rt_stamps.specs.Words.{Word, as_words}
use Rattle.rt_peers.specs.SiteValue.{SiteValue}
use Rattle.rt_script.specs.declared.answer.Answer.{Answer}
use Rattle.rt_script.specs.Site.{DestroyGives, Session, as_answer}
use Rattle.rt_script.proofs.site_lines.Session.destroy.Goals as goal
use Rattle.rt_script.proofs.site_lines.Session.destroy.Goals.{in-Ok, in-Err}

pub returns-clause-gives : goal.returns-clause-gives
returns-clause-gives c =
    let words : List Word = as_words c.args.words.now in
    let here : (answer : Answer) → DestroyGives words c.self.inside.site answer c.destroy.new.site → DestroyGives words c.args.self.now.site answer c.destroy.new.site
    = λ answer. subst (λ (s : SiteValue). DestroyGives words s answer c.destroy.new.site) (ap (λ (s : Session). s.site) c.self.view_is) in
    let gives : (said : Result (List Word) Fault) (answer : Answer) → answer ≡ as_answer said → DestroyGives words c.self.inside.site (as_answer said) c.destroy.new.site
    → DestroyGives words c.args.self.now.site answer c.destroy.new.site
    = λ said answer is g. here answer (subst (λ (a : Answer). DestroyGives words c.self.inside.site a c.destroy.new.site) (sym is) g) in
    elim c.match-destroy.branch [
      | in-Ok w ↦ gives (Ok w.in-Ok.reply) _ w.result-is w.in-Ok.ensures.gives
      | in-Err w ↦ gives (Err w.in-Err.fault) _ w.result-is w.in-Err.ensures.gives
    ]
