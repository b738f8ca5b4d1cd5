use Rattle.std.proofs.Common.{◌≡◌, ◌∙◌, ◌<◌, Some, ap, arith, length, map, set, subst, sym}
use Rattle.std.specs.List.{AllByRecursion}
use Rattle.std.specs.Prelude.{option_map, slice_get}
use Rattle.std.proofs.lemmas.List.{length-map, map-set}
use Rattle.std.proofs.lemmas.Option.{slice_get-get_or, slice_get-map}
use Rattle.rt_store.specs.Cells.{text_of}
use Rattle.rt_text.specs.declared.widget.Widget.{Widget}
use Rattle.rt_text.specs.Owned.{widget_value}
use Rattle.rt_text.specs.Widgets.{IsOwnOf, ViewValue}
use Rattle.rt_text.proofs.ExchangeLaws.{each_at, each_set}
use Rattle.rt_text.proofs.KeptLimits.{InOrder, order_at, order_set}
use Rattle.rt_text.proofs.view.View.exchange.Goals as goal

pub invariant_of-self : goal.invariant_of-self
invariant_of-self g c =
    let items = c.self.inside.others.items in
    let others = map widget_value items in
    let i = c.args.other in
    let many : length c.args.self.now.others ≡ length items = ap (λ (v : ViewValue). length v.others) (sym c.self.view_is) ∙ length-map items widget_value in
    let within : i < length items = omega (arith, c.requires, many) in
    let found : slice_get others i ≡ Some (widget_value c.swap.new.x) =
    slice_get-map widget_value items i ∙ ap (option_map widget_value) (slice_get-get_or items i c.index_mut.result.now within)
    ∙ ap (λ (p : Widget). Some (widget_value p)) (sym c.index_mut.ensures.value) ∙ ap (λ (p : Widget). Some (widget_value p)) (sym c.swap.ensures.x_after) in
    let back : map widget_value (set items i c.swap.new.y) ≡ set others i (widget_value c.self.inside.widget) = map-set widget_value items i c.swap.new.y ∙ ap (λ (p : Widget). set others i (widget_value p)) c.swap.ensures.y_after in
    let cells = c.self.inside.doc.cells in
    let n = length (text_of cells) in
    record {
      own = each_at (IsOwnOf n) others i (widget_value c.swap.new.x) found c.self.invariant.others;
      others = subst (AllByRecursion (IsOwnOf n)) (sym back) (each_set (IsOwnOf n) others i (widget_value c.self.inside.widget) c.self.invariant.own c.self.invariant.others);
      limits = (
        order_at cells others i (widget_value c.swap.new.x) found c.self.invariant.limits.1,
        subst (InOrder cells) (sym back) (order_set cells others i (widget_value c.self.inside.widget) c.self.invariant.limits.1 c.self.invariant.limits.0),
      );
    }

pub returns-clause-own : goal.returns-clause-own
returns-clause-own g c =
    let items = c.self.inside.others.items in
    let others = map widget_value items in
    let i = c.args.other in
    let many : length c.args.self.now.others ≡ length items = ap (λ (v : ViewValue). length v.others) (sym c.self.view_is) ∙ length-map items widget_value in
    let within : i < length items = omega (arith, c.requires, many) in
    let found : slice_get others i ≡ Some (widget_value c.swap.new.x) =
    slice_get-map widget_value items i ∙ ap (option_map widget_value) (slice_get-get_or items i c.index_mut.result.now within)
    ∙ ap (λ (p : Widget). Some (widget_value p)) (sym c.index_mut.ensures.value) ∙ ap (λ (p : Widget). Some (widget_value p)) (sym c.swap.ensures.x_after) in
    ap (λ (v : ViewValue). slice_get v.others i) (sym c.self.view_is) ∙ found

pub returns-clause-others : goal.returns-clause-others
returns-clause-others g c =
    let items = c.self.inside.others.items in
    let others = map widget_value items in
    let i = c.args.other in
    let back : map widget_value (set items i c.swap.new.y) ≡ set others i (widget_value c.self.inside.widget) = map-set widget_value items i c.swap.new.y ∙ ap (λ (p : Widget). set others i (widget_value p)) c.swap.ensures.y_after in
    back ∙ ap (λ (v : ViewValue). set v.others i v.own) c.self.view_is
