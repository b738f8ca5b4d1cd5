use Rattle.std.proofs.Common.{◌≡◌, ◌∙◌, ◌++◌, ◌∷◌, [], Err, Ok, ap, arith, inr, length, map, refl, subst, sym}
use Rattle.std.specs.List.{AllByRecursion}
use Rattle.std.proofs.lemmas.Result.{err_from_is_err_and}
use Rattle.rt_store.specs.Cells.{text_of}
use Rattle.rt_store.proofs.Shown.{map_append}
use Rattle.rt_tags.proofs.Sorted.{every_append}
use Rattle.rt_lines.specs.Choices.{limits_chosen}
use Rattle.rt_lines.specs.Ordered.{LimitsAreInOrder}
use Rattle.rt_text.specs.Limited.{with_new_peer}
use Rattle.rt_text.specs.Owned.{widget_value}
use Rattle.rt_text.specs.Widgets.{IsOwnOf, WidgetValue, ViewValue, widget_at}
use Rattle.rt_text.proofs.KeptLimits.{InOrder, order_append, order_asked}
use Rattle.rt_text.proofs.view.View.add_peer.Goals as goal

pub returns-in_err-limits : goal.returns-in_err-limits
returns-in_err-limits g c =
    let view = c.args.self.now in
    let chosen : limits_chosen view.doc.cells c.args.start c.args.end view.own.limits ≡ Err c.in_err-limits.field-0.0 =
    ap (λ (v : ViewValue). limits_chosen v.doc.cells c.args.start c.args.end v.own.limits) (sym c.self.view_is)
    ∙ ap (limits_chosen c.self.inside.doc.cells c.args.start c.args.end) (sym c.limits.ensures) ∙ sym c.limits_chosen.ensures ∙ c.in_err-limits.was in
    let p = err_from_is_err_and c.from_residual.result c.from_residual.ensures.1 in
    rw (p.1, p.2) (record { ok = tt; err = inr (ap (with_new_peer view) chosen); unchanged = refl })

pub invariant_of-self-2 : goal.invariant_of-self-2
invariant_of-self-2 g c =
    let doc = c.self.inside.doc in
    let cells = doc.cells in
    let n = length (text_of cells) in
    let items = c.self.inside.others.items in
    let own = widget_value c.self.inside.widget in
    let limits = c.in_ok-limits.limits in
    let chosen : limits_chosen cells c.args.start c.args.end own.limits ≡ Ok limits =
    ap (limits_chosen cells c.args.start c.args.end) (sym c.limits.ensures) ∙ sym c.limits_chosen.ensures ∙ c.in_ok-limits.was in
    let order = order_asked doc c.args.start c.args.end own.limits limits c.kept.ensures.history c.kept.ensures.document c.self.invariant.limits.0 chosen in
    let begin = c.stretch-begin.result.begin in
    let stands : IsOwnOf n (widget_at begin limits) = record {
      insert = omega (arith, c.stretch-begin.ensures.some, c.stretch-begin.ensures.within);
      current = omega (arith, c.stretch-begin.ensures.some, c.stretch-begin.ensures.within);
      insert_name = refl;
      current_name = refl;
    } in
    let new : WidgetValue = widget_value c.at.result in
    let back : map widget_value c.push.new.self.items ≡ map widget_value items ++ new ∷ [] = ap (map widget_value) c.in_ok-push.ensures.items ∙ map_append widget_value items (c.at.result ∷ []) in
    record {
      own = c.self.invariant.own;
      others = subst (AllByRecursion (IsOwnOf n)) (sym back)
          (every_append (IsOwnOf n) (map widget_value items) (new ∷ []) c.self.invariant.others (subst (IsOwnOf n) (sym c.at.ensures) stands, tt));
      limits = (
        c.self.invariant.limits.0,
        subst (InOrder cells) (sym back) (order_append cells (map widget_value items) (new ∷ []) c.self.invariant.limits.1
            (subst (λ (o : WidgetValue). LimitsAreInOrder cells o.limits) (sym c.at.ensures) order, tt)),
      );
    }
