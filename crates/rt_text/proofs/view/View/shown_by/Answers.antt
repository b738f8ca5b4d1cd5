use Rattle.std.proofs.Common.{◌≡◌, ◌∙◌, ◌-◌, ◌<◌, List, Some, ap, arith, length, map, subst, sym}
use Rattle.std.specs.Prelude.{option_map, slice_get}
use Rattle.std.proofs.lemmas.List.{length-map}
use Rattle.std.proofs.lemmas.Option.{slice_get-get_or, slice_get-map}
use Rattle.rt_store.specs.Cells.{text_of}
use Rattle.rt_text.specs.declared.widget.Widget.{Widget}
use Rattle.rt_text.specs.Owned.{widget_value}
use Rattle.rt_text.specs.Widgets.{AreWidgetsOf, IsOwnOf, ViewValue, WidgetValue}
use Rattle.rt_text.proofs.ExchangeLaws.{each_at}
use Rattle.rt_text.proofs.KeptLimits.{order_at}
use Rattle.rt_text.proofs.view.View.shown_by.Goals as goal

pub over-requires : goal.over-requires
over-requires g c =
    let items = c.self.inside.others.items in
    let others = map widget_value items in
    let i = c.args.number - 1 in
    let own = widget_value c.index.result.now in
    let cells = c.self.inside.doc.cells in
    let many : length c.args.self.now.others ≡ length items = ap (λ (v : ViewValue). length v.others) (sym c.self.view_is) ∙ length-map items widget_value in
    let some = c.if-number-eq0.false in
    let within : i < length items = omega (arith, c.requires, many, some) in
    let found : slice_get others i ≡ Some own =
    slice_get-map widget_value items i ∙ ap (option_map widget_value) (slice_get-get_or items i c.index.result.now within) ∙ ap (λ (p : Widget). Some (widget_value p)) (sym c.index.ensures) in
    let all = c.self.invariant in
    subst (λ (l : List WidgetValue). AreWidgetsOf cells own l) (ap (map widget_value) (sym c.deref.ensures.value)) (record {
      own = each_at (IsOwnOf (length (text_of cells))) others i own found all.others;
      others = all.others;
      limits = (order_at cells others i own found all.limits.1, all.limits.1);
    })
