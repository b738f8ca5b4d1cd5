use Rattle.std.proofs.Common.{◌∙◌}
use Rattle.rt_peers.specs.Cursors.{stamp_by}
use Rattle.rt_script.proofs.Paths.{if_no_text, if_text}
use Rattle.rt_script.proofs.line_site.LineSite.stamp_at.Goals as goal

pub returns-in-Ok : goal.returns-in-Ok
returns-in-Ok c =
    c.stamp_at.ensures ∙ (λ i. stamp_by (c.in-Ok.ensures.cases.0 i) c.args.place (c.self.view_is i).site)
    ∙ if_text c.args.path.now (stamp_by c.args.path.now c.args.place c.args.self.now.site) c.in-Ok.ensures.cases.1

pub returns-in-Err : goal.returns-in-Err
returns-in-Err c = if_no_text c.args.path.now (stamp_by c.args.path.now c.args.place c.args.self.now.site) c.in-Err.ensures.cases.0
