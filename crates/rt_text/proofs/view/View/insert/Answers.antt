use Rattle.std.specs.List.{AllByRecursion}
use Rattle.rt_text.specs.declared.widget.Widget.{Widget}
use Rattle.std.proofs.Common.{List, ◌≡◌, ◌∙◌, ◌⊎◌, ◌-◌, ◌<◌, Some, ap, arith, inr, length, map, min, subst, sym, refl}
use Rattle.std.specs.Prelude.{IfErr}
use Rattle.std.specs.Vec.{with_items}
use Rattle.std.proofs.lemmas.List.{length-map, with_items_is}
use Rattle.std.proofs.lemmas.Result.{err_from_is_err_and, on_err_weaker, on_ok_weaker}
use Rattle.std.proofs.lemmas.Str.{is_utf8-from_IsUtf8}
use Rattle.rt_stamps.specs.declared.fault.Fault.TheVariants.{NoMemory}
use Rattle.rt_stamps.specs.Outcomes.{first_of}
use Rattle.rt_store.specs.Cells.{text_of}
use Rattle.rt_plans.specs.DocValue.{DocValue}
use Rattle.rt_text.specs.Owned.{widget_value}
use Rattle.rt_text.specs.Commands.{with_pieces_at}
use Rattle.rt_store.specs.Shown.{TaggedCell}
use Rattle.rt_text.specs.Widgets.{IsOwnOf, ViewValue, length_shown, cells_shown, stretch_by}
use Rattle.rt_lines.specs.Ordered.{LimitsAreInOrder}
use Rattle.rt_text.proofs.LimitedTags.{shown_size}
use Rattle.rt_text.proofs.PutLaws.{all_refused, both_done, done_by, either, late_checks, refused_index, refused_name}
use Rattle.rt_text.proofs.ViewLaws.{viewed}
use Rattle.rt_text.proofs.Growing.{put_grows}
use Rattle.rt_text.proofs.KeptLimits.{order_made}
use Rattle.rt_text.proofs.view.View.insert.Goals as goal

pub returns-in_err-check_names : goal.returns-in_err-check_names
returns-in_err-check_names g c =
    let p = err_from_is_err_and c.from_residual.result c.from_residual.ensures.1 in
    rw (p.1, p.2) (record {
      ok = tt;
      err = inr (refused_name c.args.self.now c.args.index.now c.args.pieces.now c.args.rest.now c.in_err-check_names.field-0.0 c.in_err-check_names.ensures.err);
      unchanged = refl;
    })

pub returns-in_err-place : goal.returns-in_err-place
returns-in_err-place g c =
    let p = err_from_is_err_and c.from_residual-in_err-place.result c.from_residual-in_err-place.ensures.1 in
    rw (p.1, p.2) (record {
      ok = tt;
      err = either (refused_index c.args.self.now c.args.index.now c.args.pieces.now c.args.rest.now c.in_err-place.field-0.0 c.in_ok-check_names.ensures.ok) c.in_err-place.ensures.err;
      unchanged = refl;
    })

pub insert_at-done-requires-clause-place : goal.insert_at-done-requires-clause-place
insert_at-done-requires-clause-place g c =
    let view = c.args.self.now in
    let stretch = c.in_ok-place.stretch in
    let size = shown_size view stretch c.in_ok-place.ensures.stretch c.in_ok-place.ensures.within in
    let there = ap (λ (d : DocValue). viewed d (widget_value c.self.inside.widget) (map widget_value c.self.inside.others.items)) c.focus.ensures ∙ c.self.view_is in
    subst (λ (v : ViewValue). c.min-place.result < length (cells_shown v)) (sym there)
    (omega (arith, size, length-map (cells_shown view) (λ (cell : TaggedCell). cell.ch), c.min-place.ensures, c.in_ok-place.ensures.some))

pub insert_at-done-requires-clause-others : goal.insert_at-done-requires-clause-others
insert_at-done-requires-clause-others g c =
    subst (λ (d : DocValue). AllByRecursion (IsOwnOf (length (text_of d.cells))) (map widget_value c.deref_mut.result.now)) (sym c.focus.ensures)
    (subst (λ (l : List Widget). AllByRecursion (IsOwnOf (length (text_of c.self.inside.doc.cells))) (map widget_value l)) (sym c.deref_mut.ensures.value) c.self.invariant.others)

pub returns-clause-ok : goal.returns-clause-ok
returns-clause-ok g c =
    let view = c.args.self.now in
    let index = c.args.index.now in
    let pieces = c.args.pieces.now in
    let rest = c.args.rest.now in
    let there = ap (λ (d : DocValue). viewed d (widget_value c.self.inside.widget) (map widget_value c.self.inside.others.items)) c.focus.ensures ∙ c.self.view_is in
    let same : viewed c.focus.new.self (widget_value c.self.inside.widget) (map widget_value c.deref_mut.result.now) ≡ view =
    ap (λ l. viewed c.focus.new.self (widget_value c.self.inside.widget) (map widget_value l)) c.deref_mut.ensures.value ∙ there in
    let at = c.min-place.result in
    let place : at ≡ min c.in_ok-place.place (length_shown view - 1) =
    c.min-place.ensures ∙ ap (λ n. min c.in_ok-place.place (n - 1)) (shown_size view c.in_ok-place.stretch c.in_ok-place.ensures.stretch c.in_ok-place.ensures.within) in
    let back : (with_items c.self.inside.others c.insert_at-done.new.others).items ≡ c.insert_at-done.new.others = with_items_is c.self.inside.others c.insert_at-done.new.others (omega (arith, c.insert_at-done.auto.others, c.deref_mut.ensures.len)) in
    let edited : ViewValue = viewed c.insert_at-done.new.self (widget_value c.insert_at-done.new.widget) (map widget_value (with_items c.self.inside.others c.insert_at-done.new.others).items) in
    both_done c.insert_at-done.result
    (λ made checked. done_by view index pieces rest c.in_ok-place.place at edited c.in_ok-check_names.ensures.ok c.in_ok-place.ensures.ok place
    (ap (λ l. viewed c.insert_at-done.new.self (widget_value c.insert_at-done.new.widget) (map widget_value l)) back ∙ made ∙ ap (λ (v : ViewValue). with_pieces_at v at pieces rest) same)
    (ap (λ (v : ViewValue). first_of (late_checks v.doc edited)) (sym there) ∙ checked))
    c.insert_at-done.ensures.ok c.insert_at-done.ensures.checked

pub returns-clause-err : goal.returns-clause-err
returns-clause-err g c =
    let view = c.args.self.now in
    let index = c.args.index.now in
    let pieces = c.args.pieces.now in
    let rest = c.args.rest.now in
    let there = ap (λ (d : DocValue). viewed d (widget_value c.self.inside.widget) (map widget_value c.self.inside.others.items)) c.focus.ensures ∙ c.self.view_is in
    let same : viewed c.focus.new.self (widget_value c.self.inside.widget) (map widget_value c.deref_mut.result.now) ≡ view =
    ap (λ l. viewed c.focus.new.self (widget_value c.self.inside.widget) (map widget_value l)) c.deref_mut.ensures.value ∙ there in
    let at = c.min-place.result in
    let place : at ≡ min c.in_ok-place.place (length_shown view - 1) =
    c.min-place.ensures ∙ ap (λ n. min c.in_ok-place.place (n - 1)) (shown_size view c.in_ok-place.stretch c.in_ok-place.ensures.stretch c.in_ok-place.ensures.within) in
    all_refused view index pieces rest c.in_ok-place.place at c.insert_at-done.result c.in_ok-check_names.ensures.ok c.in_ok-place.ensures.ok place
    (subst (λ (v : ViewValue). IfErr c.insert_at-done.result (λ fault. (fault ≡ NoMemory) ⊎ (first_of (late_checks v.doc (with_pieces_at v at pieces rest)) ≡ Some fault))) same c.insert_at-done.ensures.err)

pub returns-clause-unchanged : goal.returns-clause-unchanged
returns-clause-unchanged g c =
    let there = ap (λ (d : DocValue). viewed d (widget_value c.self.inside.widget) (map widget_value c.self.inside.others.items)) c.focus.ensures ∙ c.self.view_is in
    let same : viewed c.focus.new.self (widget_value c.self.inside.widget) (map widget_value c.deref_mut.result.now) ≡ c.args.self.now =
    ap (λ l. viewed c.focus.new.self (widget_value c.self.inside.widget) (map widget_value l)) c.deref_mut.ensures.value ∙ there in
    let back : (with_items c.self.inside.others c.insert_at-done.new.others).items ≡ c.insert_at-done.new.others = with_items_is c.self.inside.others c.insert_at-done.new.others (omega (arith, c.insert_at-done.auto.others, c.deref_mut.ensures.len)) in
    on_err_weaker c.insert_at-done.result
    (λ kept. ap (λ l. viewed c.insert_at-done.new.self (widget_value c.insert_at-done.new.widget) (map widget_value l)) back ∙ kept ∙ same)
    c.insert_at-done.ensures.unchanged

pub invariant_of-text : goal.invariant_of-text
invariant_of-text g c = record { utf8 = is_utf8-from_IsUtf8 c.args.rest.now c.utf8.rest }

pub invariant_of-self : goal.invariant_of-self
invariant_of-self g c =
    let back : (with_items c.self.inside.others c.insert_at-done.new.others).items ≡ c.insert_at-done.new.others =
    with_items_is c.self.inside.others c.insert_at-done.new.others (omega (arith, c.insert_at-done.auto.others, c.deref_mut.ensures.len)) in
    let n = length (text_of c.insert_at-done.new.self.cells) in
    let items = c.self.inside.others.items in
    let at = c.min-place.result in
    let pieces = c.args.pieces.now in
    let rest = c.args.rest.now in
    let view = viewed c.self.inside.doc (widget_value c.self.inside.widget) (map widget_value items) in
    let new = viewed c.insert_at-done.new.self (widget_value c.insert_at-done.new.widget) (map widget_value (with_items c.self.inside.others c.insert_at-done.new.others).items) in
    let here : new ≡ viewed c.insert_at-done.new.self (widget_value c.insert_at-done.new.widget) (map widget_value c.insert_at-done.new.others) =
    ap (λ (l : List Widget). viewed c.insert_at-done.new.self (widget_value c.insert_at-done.new.widget) (map widget_value l)) back in
    let lent : viewed c.focus.new.self (widget_value c.self.inside.widget) (map widget_value c.deref_mut.result.now) ≡ view =
    λ i. viewed (c.focus.ensures i) (widget_value c.self.inside.widget) (map widget_value (c.deref_mut.ensures.value i)) in
    let made = on_ok_weaker c.insert_at-done.result (λ e. here ∙ e ∙ ap (λ (v : ViewValue). with_pieces_at v at pieces rest) lent) c.insert_at-done.ensures.ok in
    let same = on_err_weaker c.insert_at-done.result (λ kept. here ∙ kept ∙ lent) c.insert_at-done.ensures.unchanged in
    record {
      own = c.insert_at-done.ensures.own;
      others = subst (λ (l : List Widget). AllByRecursion (IsOwnOf n) (map widget_value l)) (sym back) c.insert_at-done.ensures.others;
      limits = order_made c.insert_at-done.result view (with_pieces_at view at pieces rest) new c.kept.ensures.history c.kept.ensures.document.cells c.log.ensures.history c.log.ensures.cells
          (put_grows view at pieces rest) made same c.self.invariant.limits;
    }

pub insert_at-done-requires-clause-own : goal.insert_at-done-requires-clause-own
insert_at-done-requires-clause-own g c = subst (λ (d : DocValue). IsOwnOf (length (text_of d.cells)) (widget_value c.self.inside.widget)) (sym c.focus.ensures) c.self.invariant.own

pub insert_at-done-requires-clause-pieces : goal.insert_at-done-requires-clause-pieces
insert_at-done-requires-clause-pieces g c = c.in_ok-check_names.ensures.pieces

pub insert_at-done-requires-clause-stretch : goal.insert_at-done-requires-clause-stretch
insert_at-done-requires-clause-stretch g c =
    let there = ap (λ (d : DocValue). viewed d (widget_value c.self.inside.widget) (map widget_value c.self.inside.others.items)) c.focus.ensures ∙ c.self.view_is in
    c.in_ok-place.ensures.stretch ∙ sym (ap stretch_by there)

pub insert_at-done-requires-clause-order : goal.insert_at-done-requires-clause-order
insert_at-done-requires-clause-order g c = subst (λ (d : DocValue). LimitsAreInOrder d.cells c.self.inside.widget.limits) (sym c.focus.ensures) c.self.invariant.limits.0
