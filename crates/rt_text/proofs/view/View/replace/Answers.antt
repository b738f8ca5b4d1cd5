use Rattle.std.specs.List.{AllByRecursion}
use Rattle.rt_text.specs.declared.widget.Widget.{Widget}
use Rattle.std.proofs.Common.{List, length, ◌≡◌, ◌∙◌, ◌⊎◌, Some, ap, arith, inr, map, subst, sym, refl}
use Rattle.std.specs.Prelude.{IfErr}
use Rattle.std.specs.Vec.{with_items}
use Rattle.std.proofs.lemmas.List.{with_items_is}
use Rattle.std.proofs.lemmas.Result.{err_from_is_err_and, on_err_weaker, on_ok_weaker}
use Rattle.rt_stamps.specs.declared.fault.Fault.TheVariants.{NoMemory}
use Rattle.rt_stamps.specs.Outcomes.{first_of}
use Rattle.rt_plans.specs.declared.range.Range.{Range}
use Rattle.rt_store.specs.Cells.{text_of}
use Rattle.rt_text.specs.Owned.{widget_value}
use Rattle.rt_text.specs.Commands.{with_range_replaced}
use Rattle.rt_text.specs.Widgets.{IsOwnOf, ViewValue}
use Rattle.rt_text.proofs.PutLaws.{both_done, either, late_checks}
use Rattle.rt_text.proofs.ReplaceLaws.{backwards, bad_from, bad_name, bad_to, done_as, refused_late}
use Rattle.rt_text.proofs.ViewLaws.{viewed}
use Rattle.rt_text.proofs.Growing.{replaced_grows}
use Rattle.rt_text.proofs.KeptLimits.{order_made}
use Rattle.rt_text.proofs.view.View.replace.Goals as goal

pub returns-in_err-check_names : goal.returns-in_err-check_names
returns-in_err-check_names g c =
    let p = err_from_is_err_and c.from_residual.result c.from_residual.ensures.1 in
    rw (p.1, p.2) (record {
      ok = tt;
      err = inr (bad_name c.args.self.now c.args.pieces.now c.args.rest.now c.args.from.now c.args.to.now c.in_err-check_names.field-0.0 c.in_err-check_names.ensures.err);
      unchanged = refl;
    })

pub returns-in_err-begin : goal.returns-in_err-begin
returns-in_err-begin g c =
    let p = err_from_is_err_and c.from_residual-in_err-begin.result c.from_residual-in_err-begin.ensures.1 in
    rw (p.1, p.2) (record {
      ok = tt;
      err = either (bad_from c.args.self.now c.args.pieces.now c.args.rest.now c.args.from.now c.args.to.now c.in_ok-check_names.ensures.ok c.in_err-begin.field-0.0) c.in_err-begin.ensures.err;
      unchanged = refl;
    })

pub returns-in_err-end : goal.returns-in_err-end
returns-in_err-end g c =
    let p = err_from_is_err_and c.from_residual-in_err-end.result c.from_residual-in_err-end.ensures.1 in
    rw (p.1, p.2) (record {
      ok = tt;
      err = either (bad_to c.args.self.now c.args.pieces.now c.args.rest.now c.args.from.now c.args.to.now c.in_ok-check_names.ensures.ok c.in_ok-begin.begin c.in_err-end.field-0.0 c.in_ok-begin.ensures.ok)
          c.in_err-end.ensures.err;
      unchanged = refl;
    })

pub returns-in_err-range : goal.returns-in_err-range
returns-in_err-range g c =
    let p = err_from_is_err_and c.from_residual-in_err-range.result c.from_residual-in_err-range.ensures.1 in
    rw (p.1, p.2) (record {
      ok = tt;
      err = inr (backwards c.args.self.now c.args.pieces.now c.args.rest.now c.args.from.now c.args.to.now c.in_ok-check_names.ensures.ok c.in_ok-begin.begin c.in_ok-end.end
          c.in_ok-begin.ensures.ok c.in_ok-end.ensures.ok c.in_err-range.field-0.0 c.in_err-range.ensures.err);
      unchanged = refl;
    })

pub replace_in-done-requires-clause-others : goal.replace_in-done-requires-clause-others
replace_in-done-requires-clause-others g c =
    subst (λ (l : List Widget). AllByRecursion (IsOwnOf (length (text_of c.self.inside.doc.cells))) (map widget_value l)) (sym c.deref_mut.ensures.value) c.self.invariant.others

pub returns-clause-ok : goal.returns-clause-ok
returns-clause-ok g c =
    let view = c.args.self.now in
    let pieces = c.args.pieces.now in
    let rest = c.args.rest.now in
    let range : Range = record { from = c.in_ok-begin.begin; to = c.in_ok-end.end } in
    let same : viewed c.self.inside.doc (widget_value c.self.inside.widget) (map widget_value c.deref_mut.result.now) ≡ view =
    ap (λ l. viewed c.self.inside.doc (widget_value c.self.inside.widget) (map widget_value l)) c.deref_mut.ensures.value ∙ c.self.view_is in
    let back : (with_items c.self.inside.others c.replace_in-done.new.others).items ≡ c.replace_in-done.new.others =
    with_items_is c.self.inside.others c.replace_in-done.new.others (omega (arith, c.replace_in-done.auto.others, c.deref_mut.ensures.len)) in
    let edited : ViewValue = viewed c.replace_in-done.new.self (widget_value c.replace_in-done.new.widget) (map widget_value (with_items c.self.inside.others c.replace_in-done.new.others).items) in
    both_done c.replace_in-done.result
    (λ made checked. done_as view pieces rest c.args.from.now c.args.to.now c.in_ok-check_names.ensures.ok c.in_ok-begin.begin c.in_ok-end.end c.in_ok-begin.ensures.ok c.in_ok-end.ensures.ok edited
    c.in_ok-range.ensures.checked
    (ap (λ l. viewed c.replace_in-done.new.self (widget_value c.replace_in-done.new.widget) (map widget_value l)) back ∙ made
    ∙ (λ i. with_range_replaced (same i) (c.in_ok-range.ensures.ok i) pieces rest))
    (ap (λ (v : ViewValue). first_of (late_checks v.doc edited)) (sym c.self.view_is) ∙ checked))
    c.replace_in-done.ensures.ok c.replace_in-done.ensures.checked

pub returns-clause-err : goal.returns-clause-err
returns-clause-err g c =
    let view = c.args.self.now in
    let pieces = c.args.pieces.now in
    let rest = c.args.rest.now in
    let range : Range = record { from = c.in_ok-begin.begin; to = c.in_ok-end.end } in
    let same : viewed c.self.inside.doc (widget_value c.self.inside.widget) (map widget_value c.deref_mut.result.now) ≡ view =
    ap (λ l. viewed c.self.inside.doc (widget_value c.self.inside.widget) (map widget_value l)) c.deref_mut.ensures.value ∙ c.self.view_is in
    refused_late view pieces rest c.args.from.now c.args.to.now c.in_ok-check_names.ensures.ok c.in_ok-begin.begin c.in_ok-end.end c.in_ok-begin.ensures.ok c.in_ok-end.ensures.ok
    c.replace_in-done.result c.in_ok-range.ensures.checked
    (subst (λ (v : ViewValue). IfErr c.replace_in-done.result (λ fault. (fault ≡ NoMemory) ⊎ (first_of (late_checks v.doc (with_range_replaced v range pieces rest)) ≡ Some fault))) same
    (subst (λ (r : Range). IfErr c.replace_in-done.result (λ fault. (fault ≡ NoMemory)
    ⊎ (first_of (late_checks c.self.inside.doc (with_range_replaced (viewed c.self.inside.doc (widget_value c.self.inside.widget) (map widget_value c.deref_mut.result.now)) r pieces rest)) ≡ Some fault)))
    c.in_ok-range.ensures.ok c.replace_in-done.ensures.err))

pub returns-clause-unchanged : goal.returns-clause-unchanged
returns-clause-unchanged g c =
    let same : viewed c.self.inside.doc (widget_value c.self.inside.widget) (map widget_value c.deref_mut.result.now) ≡ c.args.self.now =
    ap (λ l. viewed c.self.inside.doc (widget_value c.self.inside.widget) (map widget_value l)) c.deref_mut.ensures.value ∙ c.self.view_is in
    let back : (with_items c.self.inside.others c.replace_in-done.new.others).items ≡ c.replace_in-done.new.others =
    with_items_is c.self.inside.others c.replace_in-done.new.others (omega (arith, c.replace_in-done.auto.others, c.deref_mut.ensures.len)) in
    on_err_weaker c.replace_in-done.result
    (λ kept. ap (λ l. viewed c.replace_in-done.new.self (widget_value c.replace_in-done.new.widget) (map widget_value l)) back ∙ kept ∙ same)
    c.replace_in-done.ensures.unchanged

pub invariant_of-self : goal.invariant_of-self
invariant_of-self g c =
    let back : (with_items c.self.inside.others c.replace_in-done.new.others).items ≡ c.replace_in-done.new.others =
    with_items_is c.self.inside.others c.replace_in-done.new.others (omega (arith, c.replace_in-done.auto.others, c.deref_mut.ensures.len)) in
    let n = length (text_of c.replace_in-done.new.self.cells) in
    let items = c.self.inside.others.items in
    let range = c.in_ok-range.range in
    let pieces = c.args.pieces.now in
    let rest = c.args.rest.now in
    let view = viewed c.self.inside.doc (widget_value c.self.inside.widget) (map widget_value items) in
    let new = viewed c.replace_in-done.new.self (widget_value c.replace_in-done.new.widget) (map widget_value (with_items c.self.inside.others c.replace_in-done.new.others).items) in
    let here : new ≡ viewed c.replace_in-done.new.self (widget_value c.replace_in-done.new.widget) (map widget_value c.replace_in-done.new.others) =
    ap (λ (l : List Widget). viewed c.replace_in-done.new.self (widget_value c.replace_in-done.new.widget) (map widget_value l)) back in
    let lent : viewed c.self.inside.doc (widget_value c.self.inside.widget) (map widget_value c.deref_mut.result.now) ≡ view =
    ap (λ (l : List Widget). viewed c.self.inside.doc (widget_value c.self.inside.widget) (map widget_value l)) c.deref_mut.ensures.value in
    let made = on_ok_weaker c.replace_in-done.result (λ e. here ∙ e ∙ ap (λ (v : ViewValue). with_range_replaced v range pieces rest) lent) c.replace_in-done.ensures.ok in
    let same = on_err_weaker c.replace_in-done.result (λ kept. here ∙ kept ∙ lent) c.replace_in-done.ensures.unchanged in
    record {
      own = c.replace_in-done.ensures.own;
      others = subst (λ (l : List Widget). AllByRecursion (IsOwnOf n) (map widget_value l)) (sym back) c.replace_in-done.ensures.others;
      limits = order_made c.replace_in-done.result view (with_range_replaced view range pieces rest) new c.kept.ensures.history c.kept.ensures.document.cells c.log.ensures.history c.log.ensures.cells
          (replaced_grows view range pieces rest) made same c.self.invariant.limits;
    }

pub replace_in-done-requires-clause-own : goal.replace_in-done-requires-clause-own
replace_in-done-requires-clause-own g c = c.self.invariant.own

pub replace_in-done-requires-clause-pieces : goal.replace_in-done-requires-clause-pieces
replace_in-done-requires-clause-pieces g c = c.in_ok-check_names.ensures.pieces

pub replace_in-done-requires-clause-order : goal.replace_in-done-requires-clause-order
replace_in-done-requires-clause-order g c = c.self.invariant.limits.0
