use Rattle.std.proofs.Common.{◌∙◌, ap, sym}
use Rattle.std.specs.Prelude.{is_some}
use Rattle.rt_undo.specs.Renames.{is_moved, now_of}
use Rattle.rt_undo.proofs.Following.{now_on, now_ends}
use Rattle.rt_undo.proofs.renames.Renames.now.Goals as goal

pub target-newest-requires-clause-begun : goal.target-newest-requires-clause-begun
target-newest-requires-clause-begun c = (c.self.invariant c.loop-step.newest c.in-Some.step (sym c.in-Some.ensures)).begun

pub loop-step-preserved : goal.loop-step-preserved
loop-step-preserved c =
    ap (now_of c.self.inside.map) c.target-newest.ensures
    ∙ sym (now_on c.self.inside.map c.loop-step.newest c.in-Some.step c.self.invariant (sym c.in-Some.ensures))
    ∙ c.loop-step.invariant

pub returns-clause-now : goal.returns-clause-now
returns-clause-now c =
    sym (now_ends c.self.inside.map c.loop-step.newest (sym c.get.ensures ∙ c.in_default.is)) ∙ c.loop-step.invariant ∙ ap (λ m. now_of m c.args.stamp) c.self.view_is

pub returns-clause-newest : goal.returns-clause-newest
returns-clause-newest c =
    ap (λ m. is_moved m c.loop-step.newest) (sym c.self.view_is) ∙ ap is_some (sym c.get.ensures ∙ c.in_default.is)
