use Rattle.std.proofs.Common.{◌≡◌, ◌∙◌, Err, Ok, ap, map, refl, subst, sym}
use Rattle.std.proofs.lemmas.Result.{err_from_is_err_and}
use Rattle.rt_lines.specs.Choices.{limits_chosen}
use Rattle.rt_text.specs.Limited.{with_limits}
use Rattle.rt_text.specs.Owned.{widget_value}
use Rattle.rt_text.specs.Widgets.{AreWidgetsOf, WidgetValue, ViewValue}
use Rattle.rt_text.proofs.KeptLimits.{order_asked}
use Rattle.rt_text.proofs.view.View.set_lines.Goals as goal

pub returns-in_err-limits : goal.returns-in_err-limits
returns-in_err-limits g c =
    let view = c.args.self.now in
    let chosen : limits_chosen view.doc.cells c.args.start c.args.end view.own.limits ≡ Err c.in_err-limits.field-0.0 =
    ap (λ (v : ViewValue). limits_chosen v.doc.cells c.args.start c.args.end v.own.limits) (sym c.self.view_is)
    ∙ ap (limits_chosen c.self.inside.doc.cells c.args.start c.args.end) (sym c.limits.ensures) ∙ sym c.limits_chosen.ensures ∙ c.in_err-limits.was in
    let p = err_from_is_err_and c.from_residual.result c.from_residual.ensures.1 in
    rw (p.1, p.2) (record { ok = tt; err = ap (with_limits view) chosen; unchanged = refl })

pub invariant_of-self : goal.invariant_of-self
invariant_of-self g c =
    let doc = c.self.inside.doc in
    let limits = c.self.inside.widget.limits in
    let chosen : limits_chosen doc.cells c.args.start c.args.end limits ≡ Ok c.in_ok-limits.limits =
    ap (limits_chosen doc.cells c.args.start c.args.end) (sym c.limits.ensures) ∙ sym c.limits_chosen.ensures ∙ c.in_ok-limits.was in
    let order = order_asked doc c.args.start c.args.end limits c.in_ok-limits.limits c.kept.ensures.history c.kept.ensures.document c.self.invariant.limits.0 chosen in
    let own = c.self.invariant.own in
    subst (λ (w : WidgetValue). AreWidgetsOf doc.cells w (map widget_value c.self.inside.others.items)) (sym c.set_limits.ensures)
    (record {
      own = record { insert = own.insert; current = own.current; insert_name = own.insert_name; current_name = own.current_name };
      others = c.self.invariant.others;
      limits = (order, c.self.invariant.limits.1);
    })
