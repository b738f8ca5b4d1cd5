use Rattle.std.proofs.Common.{Ok, Err, List, Result, ap, subst}
use Rattle.rt_stamps.specs.declared.fault.Fault.{Fault}
use Rattle.rt_stamps.specs.Words.{Word, as_words}
use Rattle.rt_peers.specs.SiteStep.{Gives}
use Rattle.rt_peers.specs.SiteValue.{SiteValue}
use Rattle.rt_script.specs.Site.{Session}
use Rattle.rt_script.proofs.site_lines.Session.command.Goals as goal
use Rattle.rt_script.proofs.site_lines.Session.command.Goals.{in-Ok, in-Err}

pub returns-clause-gives : goal.returns-clause-gives
returns-clause-gives c =
    let words : List Word = as_words c.args.words.now in
    let gives : (result : Result (List Word) Fault) → Gives c.args.path.now words c.self.inside.site result c.command.new.self → Gives c.args.path.now words c.args.self.now.site result c.command.new.self
    = λ result. subst (λ (s : SiteValue). Gives c.args.path.now words s result c.command.new.self) (ap (λ (s : Session). s.site) c.self.view_is) in
    elim c.match-command.branch [
      | in-Ok w ↦ (Ok w.in-Ok.reply, w.result-is, gives (Ok w.in-Ok.reply) w.in-Ok.ensures)
      | in-Err w ↦ (Err w.in-Err.fault, w.result-is, gives (Err w.in-Err.fault) w.in-Err.ensures)
    ]
