use Rattle.std.proofs.Common.{◌∙◌, ap}
use Rattle.rt_oplog.specs.Logs.{holds}
use Rattle.rt_holding.specs.Grown.{HeldValue}
use Rattle.rt_holding.proofs.Places.{found_if}
use Rattle.rt_holding.proofs.held.Held.contains.Goals as goal

pub returns : goal.returns
returns c =
    c.is_some.ensures ∙ found_if c.self.inside.ops.entries c.args.op.now c.standing_of.result c.standing_of.ensures.some c.standing_of.ensures.none
    ∙ ap (λ (v : HeldValue). holds v.held c.args.op.now) c.self.view_is
