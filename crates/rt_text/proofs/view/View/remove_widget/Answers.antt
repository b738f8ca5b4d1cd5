use Rattle.std.proofs.Common.{◌≡◌, ◌∙◌, List, ap, length, map, subst, sym}
use Rattle.std.specs.List.{AllByRecursion, remove}
use Rattle.rt_store.specs.Cells.{text_of}
use Rattle.rt_text.specs.Owned.{widget_value}
use Rattle.rt_text.specs.Widgets.{IsOwnOf, WidgetValue, ViewValue}
use Rattle.rt_text.proofs.ExchangeLaws.{each_removed, map_removed}
use Rattle.rt_text.proofs.KeptLimits.{InOrder, order_removed}
use Rattle.rt_text.proofs.view.View.remove_widget.Goals as goal

pub invariant_of-self : goal.invariant_of-self
invariant_of-self g c =
    let items = c.self.inside.others.items in
    let i = c.args.other in
    let back : map widget_value c.remove.new.self.items ≡ remove (map widget_value items) i = ap (map widget_value) c.remove.ensures.items ∙ map_removed widget_value items i in
    let cells = c.self.inside.doc.cells in
    let n = length (text_of cells) in
    record {
      own = c.self.invariant.own;
      others = subst (AllByRecursion (IsOwnOf n)) (sym back) (each_removed (IsOwnOf n) (map widget_value items) i c.self.invariant.others);
      limits = (c.self.invariant.limits.0, subst (InOrder cells) (sym back) (order_removed cells (map widget_value items) i c.self.invariant.limits.1));
    }

pub returns : goal.returns
returns g c =
    let items = c.self.inside.others.items in
    let i = c.args.other in
    let back : map widget_value c.remove.new.self.items ≡ remove (map widget_value items) i = ap (map widget_value) c.remove.ensures.items ∙ map_removed widget_value items i in
    ap (λ (l : List WidgetValue). record { doc = c.self.inside.doc; own = widget_value c.self.inside.widget; others = l }) back
    ∙ ap (λ (v : ViewValue). record v { others = remove v.others i }) c.self.view_is
