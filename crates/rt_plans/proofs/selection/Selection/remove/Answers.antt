use Rattle.std.proofs.Common.{◌∙◌, rules, sym}
use Rattle.std.proofs.lemmas.Fn.{filter_same}
use Rattle.rt_plans.specs.Selected.{selected_stamps}
use Rattle.rt_plans.proofs.Selecting.{unselected_none}
use Rattle.rt_plans.proofs.selection.Selection.remove.Goals as goal

pub returns-then-not-is_empty : goal.returns-then-not-is_empty
returns-then-not-is_empty c = filter_same _ _ _ (λ x b f' k. search rules) _ _ c.retain.ensures.filtered

pub returns-else-not-is_empty : goal.returns-else-not-is_empty
returns-else-not-is_empty c =
    sym (unselected_none (selected_stamps c.args.other.now) (selected_stamps c.args.self.now) (sym c.is_empty.ensures ∙ c.if-not-is_empty.false))
