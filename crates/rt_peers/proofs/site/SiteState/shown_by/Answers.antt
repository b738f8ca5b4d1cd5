use Rattle.std.proofs.Common.{ap, arith, sym}
use Rattle.rt_peers.specs.SiteValue.{SiteValue}
use Rattle.rt_peers.proofs.Numbered.{is_nowhere, view_nowhere}
use Rattle.rt_peers.proofs.site.SiteState.shown_by.Goals as goal

pub returns-then-number-len : goal.returns-then-number-len
returns-then-number-len c =
    let gone = is_nowhere c.args.number c.self.inside.paths.items c.args.self.now.paths (ap (λ (s : SiteValue). s.paths) c.self.view_is) (omega (arith, c.len.ensures, c.if-number-len.true)) in
    sym (view_nowhere c.args.number c.args.self.now gone)
