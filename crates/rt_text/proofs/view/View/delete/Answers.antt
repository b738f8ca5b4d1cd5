use Rattle.std.specs.List.{AllByRecursion}
use Rattle.rt_text.specs.declared.widget.Widget.{Widget}
use Rattle.std.proofs.Common.{List, length, ◌≡◌, ◌∙◌, ◌⊎◌, Some, ap, arith, map, subst, sym, refl}
use Rattle.std.specs.Prelude.{IfErr}
use Rattle.std.specs.Vec.{with_items}
use Rattle.std.proofs.lemmas.List.{with_items_is}
use Rattle.std.proofs.lemmas.Result.{IfErr-weaker, err_from_is_err_and, on_err_weaker, on_ok_weaker}
use Rattle.rt_stamps.specs.declared.fault.Fault.TheVariants.{NoMemory}
use Rattle.rt_stamps.specs.Words.{as_words}
use Rattle.rt_store.specs.Cells.{text_of}
use Rattle.rt_text.specs.Owned.{widget_value}
use Rattle.rt_text.specs.Commands.{clock_check, without_ranges}
use Rattle.rt_text.specs.Widgets.{IsOwnOf, ViewValue}
use Rattle.rt_text.proofs.Deletions.{both_ok, deleted_index}
use Rattle.rt_text.proofs.Refusals.{deleted_ok, deleted_refused}
use Rattle.rt_text.proofs.ViewLaws.{viewed}
use Rattle.rt_text.proofs.Growing.{without_grows}
use Rattle.rt_text.proofs.KeptLimits.{order_made}
use Rattle.rt_text.proofs.view.View.delete.Goals as goal

pub returns-in_err-ranges : goal.returns-in_err-ranges
returns-in_err-ranges g c =
    let p = err_from_is_err_and c.from_residual.result c.from_residual.ensures.1 in
    rw p.1 (record {
      ok = tt;
      err = deleted_index c.args.self.now (as_words c.args.indices.now) p.0 c.in_err-ranges.field-0.0 c.in_err-ranges.ensures.err p.2;
      unchanged = refl;
    })

pub delete_in-done-requires-clause-others : goal.delete_in-done-requires-clause-others
delete_in-done-requires-clause-others g c =
    subst (λ (l : List Widget). AllByRecursion (IsOwnOf (length (text_of c.self.inside.doc.cells))) (map widget_value l)) (sym c.deref_mut.ensures.value) c.self.invariant.others

pub returns-clause-ok : goal.returns-clause-ok
returns-clause-ok g c =
    let view = c.args.self.now in
    let indices = as_words c.args.indices.now in
    let ranges = c.deref.result.now in
    let read = c.deref.ensures.value ∙ c.in_ok-ranges.ensures.ok in
    let same : viewed c.self.inside.doc (widget_value c.self.inside.widget) (map widget_value c.deref_mut.result.now) ≡ view =
    ap (λ l. viewed c.self.inside.doc (widget_value c.self.inside.widget) (map widget_value l)) c.deref_mut.ensures.value ∙ c.self.view_is in
    let back : (with_items c.self.inside.others c.delete_in-done.new.others).items ≡ c.delete_in-done.new.others = with_items_is c.self.inside.others c.delete_in-done.new.others (omega (arith, c.delete_in-done.auto.others, c.deref_mut.ensures.len)) in
    let edited : ViewValue = viewed c.delete_in-done.new.self (widget_value c.delete_in-done.new.widget) (map widget_value (with_items c.self.inside.others c.delete_in-done.new.others).items) in
    both_ok c.delete_in-done.result
    (λ made fits. deleted_ok view indices ranges c.in_ok-ranges.ensures.checked read edited (ap (λ (v : ViewValue). without_ranges v ranges) (sym same) ∙ sym made ∙ ap (λ l. viewed c.delete_in-done.new.self (widget_value c.delete_in-done.new.widget) (map widget_value l)) (sym back)) fits)
    c.delete_in-done.ensures.ok c.delete_in-done.ensures.checked

pub returns-clause-err : goal.returns-clause-err
returns-clause-err g c =
    let view = c.args.self.now in
    let indices = as_words c.args.indices.now in
    let ranges = c.deref.result.now in
    let read = c.deref.ensures.value ∙ c.in_ok-ranges.ensures.ok in
    let same : viewed c.self.inside.doc (widget_value c.self.inside.widget) (map widget_value c.deref_mut.result.now) ≡ view =
    ap (λ l. viewed c.self.inside.doc (widget_value c.self.inside.widget) (map widget_value l)) c.deref_mut.ensures.value ∙ c.self.view_is in
    IfErr-weaker c.delete_in-done.result _ _ (λ fault h. deleted_refused view indices ranges c.in_ok-ranges.ensures.checked read fault h)
    (subst (λ (v : ViewValue). IfErr c.delete_in-done.result (λ fault. (fault ≡ NoMemory) ⊎ (clock_check (without_ranges v ranges).doc.count ≡ Some fault))) same c.delete_in-done.ensures.err)

pub invariant_of-self : goal.invariant_of-self
invariant_of-self g c =
    let back : (with_items c.self.inside.others c.delete_in-done.new.others).items ≡ c.delete_in-done.new.others =
    with_items_is c.self.inside.others c.delete_in-done.new.others (omega (arith, c.delete_in-done.auto.others, c.deref_mut.ensures.len)) in
    let n = length (text_of c.delete_in-done.new.self.cells) in
    let items = c.self.inside.others.items in
    let ranges = c.deref.result.now in
    let view = viewed c.self.inside.doc (widget_value c.self.inside.widget) (map widget_value items) in
    let new = viewed c.delete_in-done.new.self (widget_value c.delete_in-done.new.widget) (map widget_value (with_items c.self.inside.others c.delete_in-done.new.others).items) in
    let here : new ≡ viewed c.delete_in-done.new.self (widget_value c.delete_in-done.new.widget) (map widget_value c.delete_in-done.new.others) =
    ap (λ (l : List Widget). viewed c.delete_in-done.new.self (widget_value c.delete_in-done.new.widget) (map widget_value l)) back in
    let lent : viewed c.self.inside.doc (widget_value c.self.inside.widget) (map widget_value c.deref_mut.result.now) ≡ view =
    ap (λ (l : List Widget). viewed c.self.inside.doc (widget_value c.self.inside.widget) (map widget_value l)) c.deref_mut.ensures.value in
    let made = on_ok_weaker c.delete_in-done.result (λ e. here ∙ e ∙ ap (λ (v : ViewValue). without_ranges v ranges) lent) c.delete_in-done.ensures.ok in
    let same = on_err_weaker c.delete_in-done.result (λ kept. here ∙ kept ∙ lent) c.delete_in-done.ensures.unchanged in
    record {
      own = c.delete_in-done.ensures.own;
      others = subst (λ (l : List Widget). AllByRecursion (IsOwnOf n) (map widget_value l)) (sym back) c.delete_in-done.ensures.others;
      limits = order_made c.delete_in-done.result view (without_ranges view ranges) new c.kept.ensures.history c.kept.ensures.document.cells c.log.ensures.history c.log.ensures.cells
          (without_grows view ranges) made same c.self.invariant.limits;
    }

pub delete_in-done-requires-clause-own : goal.delete_in-done-requires-clause-own
delete_in-done-requires-clause-own g c = c.self.invariant.own

pub returns-clause-unchanged : goal.returns-clause-unchanged
returns-clause-unchanged g c =
    let same : viewed c.self.inside.doc (widget_value c.self.inside.widget) (map widget_value c.deref_mut.result.now) ≡ c.args.self.now =
    ap (λ l. viewed c.self.inside.doc (widget_value c.self.inside.widget) (map widget_value l)) c.deref_mut.ensures.value ∙ c.self.view_is in
    let back : (with_items c.self.inside.others c.delete_in-done.new.others).items ≡ c.delete_in-done.new.others = with_items_is c.self.inside.others c.delete_in-done.new.others (omega (arith, c.delete_in-done.auto.others, c.deref_mut.ensures.len)) in
    on_err_weaker c.delete_in-done.result
    (λ kept. ap (λ l. viewed c.delete_in-done.new.self (widget_value c.delete_in-done.new.widget) (map widget_value l)) back ∙ kept ∙ same)
    c.delete_in-done.ensures.unchanged
