use Rattle.std.proofs.Common.{◌∙◌, ap, map, subst, sym}
use Rattle.rt_plans.specs.DocValue.{DocValue}
use Rattle.rt_text.specs.Owned.{widget_value, view_of}
use Rattle.rt_text.specs.Widgets.{AreWidgetsOf}
use Rattle.rt_text.proofs.view.View.note.Goals as goal

pub invariant_of-self : goal.invariant_of-self
invariant_of-self g c =
    let v = c.self.inside in
    subst (λ (d : DocValue). AreWidgetsOf d.cells (widget_value v.widget) (map widget_value v.others.items)) (sym c.note.ensures) c.self.invariant

pub returns : goal.returns
returns g c =
    let v = c.self.inside in
    ap (λ (d : DocValue). view_of d v.widget v.others.items) c.note.ensures ∙ c.self.view_is
