use Rattle.std.proofs.Common.{◌∙◌, rules, sym}
use Rattle.std.proofs.lemmas.Fn.{filter_same}
use Rattle.rt_plans.specs.Selected.{selected_stamps}
use Rattle.rt_plans.proofs.Selecting.{unselected_other}
use Rattle.rt_plans.proofs.selection.Selection.remove_one.Goals as goal

pub returns-then-has-clause-stamps : goal.returns-then-has-clause-stamps
returns-then-has-clause-stamps c = filter_same _ _ _ (λ x b f' k. search rules) _ _ c.retain.ensures.filtered

pub returns-else-has-clause-stamps : goal.returns-else-has-clause-stamps
returns-else-has-clause-stamps c = sym (unselected_other c.args.stamp (selected_stamps c.args.self.now) (sym c.has.ensures ∙ c.if-has.false))
