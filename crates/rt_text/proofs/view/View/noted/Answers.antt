use Rattle.std.proofs.Common.{◌∙◌, List, ap, map, reverse, subst, sym}
use Rattle.std.specs.Prelude.{IfSome}
use Rattle.rt_ops.specs.Operations.{Operation}
use Rattle.rt_plans.specs.DocValue.{DocValue}
use Rattle.rt_rga.specs.Noted.{AreOfNewest}
use Rattle.rt_text.specs.Owned.{widget_value, view_of}
use Rattle.rt_text.specs.Widgets.{AreWidgetsOf, ViewValue}
use Rattle.rt_text.proofs.view.View.noted.Goals as goal

pub invariant_of-self : goal.invariant_of-self
invariant_of-self g c =
    let v = c.self.inside in
    subst (λ (d : DocValue). AreWidgetsOf d.cells (widget_value v.widget) (map widget_value v.others.items)) (sym c.noted.ensures.same) c.self.invariant

pub returns : goal.returns
returns g c =
    let v = c.self.inside in
    let log = ap (λ (view : ViewValue). view.doc.log) c.self.view_is in
    record {
      newest = subst (λ (l : List Operation). IfSome c.noted.result (λ changes. AreOfNewest (reverse changes.items) l)) log c.noted.ensures.newest;
      same = ap (λ (d : DocValue). view_of d v.widget v.others.items) c.noted.ensures.same ∙ c.self.view_is;
    }
