use Rattle.std.proofs.Common.{map, subst, sym}
use Rattle.rt_plans.specs.DocValue.{DocValue}
use Rattle.rt_text.specs.Owned.{widget_value}
use Rattle.rt_text.specs.Widgets.{AreWidgetsOf}
use Rattle.rt_text.proofs.KeptDocument.{either_way}
use Rattle.rt_text.proofs.view.View.set_mark.Goals as goal

pub invariant_of-self : goal.invariant_of-self
invariant_of-self g c =
    let others = map widget_value c.self.inside.others.items in
    either_way c.set_mark.result
    (λ e. subst (λ (f : DocValue). AreWidgetsOf f.cells (widget_value c.self.inside.widget) others) (sym e) c.self.invariant)
    (λ e. subst (λ (f : DocValue). AreWidgetsOf f.cells (widget_value c.self.inside.widget) others) (sym e) c.self.invariant) c.set_mark.ensures.ok c.set_mark.ensures.unchanged
