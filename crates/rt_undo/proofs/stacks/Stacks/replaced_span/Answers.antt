use Rattle.std.proofs.Common.{◌∙◌, ap}
use Rattle.rt_undo.specs.Seen.{history_kept}
use Rattle.rt_undo.specs.Undo.{renamed_span}
use Rattle.rt_undo.proofs.Histories.{history_came_back}
use Rattle.rt_undo.proofs.stacks.Stacks.replaced_span.Goals as goal

pub returns-clause-history : goal.returns-clause-history
returns-clause-history c =
    history_came_back c.args.former c.args.newer c.self.inside.renames c.rename.new.self (history_kept c.self.inside) c.rename.ensures.now
    ∙ ap (λ v. renamed_span c.args.former c.args.newer v.history) c.self.view_is
