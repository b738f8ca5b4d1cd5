use Rattle.std.proofs.Common.{◌∙◌}
use Rattle.rt_undo.specs.Undo.{renamed_by}
use Rattle.rt_undo.proofs.Following.{renamed_one}
use Rattle.rt_undo.proofs.stacks.Stacks.replaced.Goals as goal

pub returns-clause-history : goal.returns-clause-history
returns-clause-history c =
    c.replaced_span.ensures.history ∙ (λ i. renamed_by (λ s. renamed_one c.args.old c.args.new s i) c.args.self.now.history)
