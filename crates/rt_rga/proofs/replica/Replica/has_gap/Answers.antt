use Rattle.std.proofs.Common.{◌∙◌, ap}
use Rattle.rt_rga.specs.Answers.{has_gap}
use Rattle.rt_rga.specs.Kept.{ReplicaValue}
use Rattle.rt_rga.proofs.Answering.{gap_kept}
use Rattle.rt_rga.proofs.Within.{cells_by}
use Rattle.rt_rga.proofs.replica.Replica.has_gap.Goals as goal

pub returns : goal.returns
returns g c =
    let list = g.S.TextStore.list c.self.inside.store in
    c.has_gap.ensures
    ∙ gap_kept c.self.inside.log.operations list (cells_by c.self.inside.log.operations c.self.inside.states list c.self.invariant.within.replica) c.args.span
    ∙ ap (λ (v : ReplicaValue). has_gap v.log c.args.span) c.self.view_is
