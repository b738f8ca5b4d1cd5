use Rattle.std.proofs.Common.{◌≡◌, ℕ, ◌≤◌, ◌∙◌, All, Some, ap, arith, false, inl, inr, length, map, subst, sym, true, refl}
use Rattle.std.specs.List.{AllByRecursion}
use Rattle.std.specs.Str.{bytes_eq}
use Rattle.std.proofs.lemmas.Result.{IfErr-weaker, on_ok_weaker, err_from_is_err_and, on_err_weaker}
use Rattle.rt_stamps.specs.declared.limits.TheConstants.{GREATEST_COUNT, MOST_SPANS}
use Rattle.rt_rga.proofs.Requests.{greatest_bound}
use Rattle.rt_store.specs.Cells.{text_of, visible_of}
use Rattle.rt_tags.specs.Tags.{sel}
use Rattle.rt_plans.specs.declared.range.Range.{Range}
use Rattle.rt_plans.specs.DocValue.{DocValue, logged}
use Rattle.rt_plans.specs.Removals.{is_covered, stamps_at, RangesFollow}
use Rattle.rt_plans.specs.Selections.{selection_with}
use Rattle.rt_plans.specs.TagDrafts.{tag_drafts_at}
use Rattle.rt_plans.specs.TagWrites.{listed_if, with_tag_at}
use Rattle.rt_plans.proofs.TagPlaces.{listed_count, listed_text, tag_text}
use Rattle.rt_lines.specs.Stretches.{stretch_of}
use Rattle.rt_text.specs.Owned.{widget_value}
use Rattle.rt_text.specs.Commands.{clock_check, with_tag_in}
use Rattle.rt_text.specs.Widgets.{AreWidgetsOf, IsOwnOf, WidgetValue, ViewValue, places_in_text}
use Rattle.rt_text.proofs.Deletions.{both_ok}
use Rattle.rt_text.proofs.KeptDocument.{as_visible, clock_fine, clock_spent, either_way}
use Rattle.rt_text.proofs.LimitedDeletions.{stretch_kept}
use Rattle.rt_text.proofs.LimitedTags.{places_are, stamps_kept, tag_own, tag_shared, up_to_end}
use Rattle.rt_text.proofs.ViewLaws.{viewed}
use Rattle.rt_text.proofs.Growing.{logged_grows}
use Rattle.rt_text.proofs.KeptLimits.{order_made, widgets_selecting}
use Rattle.rt_text.proofs.view.View.write_tag.Goals as goal

pub returns-then-eq-clause-err : goal.returns-then-eq-clause-err
returns-then-eq-clause-err g c = IfErr-weaker c.select.result _ _ (λ fault h. inl h) c.select.ensures.err

pub returns-then-eq-clause-unchanged : goal.returns-then-eq-clause-unchanged
returns-then-eq-clause-unchanged g c = on_err_weaker c.select.result (λ e. ap (λ (w : WidgetValue). viewed c.self.inside.doc w (map widget_value c.self.inside.others.items)) e ∙ c.self.view_is) c.select.ensures.unchanged

pub returns-clause-unchanged : goal.returns-clause-unchanged
returns-clause-unchanged g c = on_err_weaker c.write_shared-done.result (λ e. ap (λ (f : DocValue). viewed f (widget_value c.self.inside.widget) (map widget_value c.self.inside.others.items)) e ∙ c.self.view_is) c.write_shared-done.ensures.unchanged

pub select-requires-clause-order : goal.select-requires-clause-order
select-requires-clause-order g c = subst (RangesFollow 0) (sym c.deref.ensures.value) c.in_ok-ranges.ensures.order

pub write_shared-done-requires-clause-order : goal.write_shared-done-requires-clause-order
write_shared-done-requires-clause-order g c = subst (RangesFollow 0) (sym c.deref-2.ensures.value) c.in_ok-ranges.ensures.order

pub write_shared-done-requires-clause-name : goal.write_shared-done-requires-clause-name
write_shared-done-requires-clause-name g c = c.requires

pub write_shared-done-requires-clause-shared : goal.write_shared-done-requires-clause-shared
write_shared-done-requires-clause-shared g c = sym c.eq.ensures ∙ c.if-eq.false

pub returns-in_err-ranges : goal.returns-in_err-ranges
returns-in_err-ranges g c =
    let p = err_from_is_err_and c.from_residual.result c.from_residual.ensures.1 in
    rw (p.1, p.2) (record { ok = tt; err = inl c.in_err-ranges.ensures.err; unchanged = refl })

pub select-requires-clause-within : goal.select-requires-clause-within
select-requires-clause-within g c =
    let n = length (visible_of (g.S.TextStore.list c.kept.result.0.now)) in
    subst (All (λ (range : Range). range.to ≤ n)) (sym c.deref.ensures.value)
    (up_to_end n c.stretch-stretch.result.end c.in_ok-ranges.ranges.items c.stretch-stretch.ensures.within c.in_ok-ranges.ensures.within)

pub returns-then-eq-clause-ok : goal.returns-then-eq-clause-ok
returns-then-eq-clause-ok g c =
    let old = c.self.inside.doc in
    let view = viewed old (widget_value c.self.inside.widget) (map widget_value c.self.inside.others.items) in
    let on = c.args.on in
    let name = c.args.name.now in
    let cells = g.S.TextStore.list c.kept.result.0.now in
    let table = c.kept.result.1.now in
    let ranges = c.args.ranges.now in
    let within = is_covered c.deref.result.now in
    let stretch : c.stretch-stretch.result ≡ stretch_of old.cells c.self.inside.widget.limits =
    c.stretch-stretch.ensures.value ∙ ap (stretch_of cells) c.limits.ensures ∙ stretch_kept table cells old.cells c.self.inside.widget.limits c.kept.ensures.cells in
    let few : c.stretch-stretch.result.end ≤ length (visible_of old.cells) = omega (arith, c.stretch-stretch.ensures.within, as_visible table cells old c.kept.ensures.cells) in
    let places : (p : ℕ) → within p ≡ places_in_text view (is_covered ranges) p =
    places_are view ranges c.stretch-stretch.result within stretch few (λ p. ap (λ l. is_covered l p) c.deref.ensures.value ∙ c.in_ok-ranges.ensures.places p) in
    let named : bytes_eq name sel ≡ true = sym c.eq.ensures ∙ c.if-eq.true in
    let found : stamps_at within 0 cells ≡ stamps_at within 0 old.cells = stamps_kept table cells old.cells within c.kept.ensures.cells in
    let fits : old.count ≤ GREATEST_COUNT = subst (λ n. n ≤ GREATEST_COUNT) (sym c.kept.ensures.document.count) (greatest_bound old.log c.kept.ensures.history) in
    on_ok_weaker c.select.result
    (λ e. (
      ap (λ (v : ViewValue). with_tag_in v on name ranges) (sym c.self.view_is) ∙ tag_own view on name ranges within places named
          ∙ ap (λ l. record view { own = record view.own { sel = selection_with on l view.own.sel } }) (sym found)
          ∙ ap (λ (w : WidgetValue). record view { own = w }) (sym e),
      clock_fine old.count fits,
    )) c.select.ensures.ok

pub write_shared-done-requires-clause-within : goal.write_shared-done-requires-clause-within
write_shared-done-requires-clause-within g c =
    let cells = g.S.TextStore.list c.kept.result.0.now in
    let n = length (visible_of c.self.inside.doc.cells) in
    let few : c.stretch-stretch.result.end ≤ n = omega (arith, c.stretch-stretch.ensures.within, as_visible c.kept.result.1.now cells c.self.inside.doc c.kept.ensures.cells) in
    subst (All (λ (range : Range). range.to ≤ n)) (sym c.deref-2.ensures.value) (up_to_end n c.stretch-stretch.result.end c.in_ok-ranges.ranges.items few c.in_ok-ranges.ensures.within)

pub invariant_of-self-2 : goal.invariant_of-self-2
invariant_of-self-2 g c =
    let old = c.self.inside.doc in
    let within = is_covered c.deref-2.result.now in
    let text : text_of c.write_shared-done.new.self.cells ≡ text_of old.cells =
    either_way c.write_shared-done.result
    (λ e. ap (λ (f : DocValue). text_of f.cells) e ∙ listed_text c.args.on c.args.name.now (with_tag_at old within c.args.on c.args.name.now) ∙ tag_text old within c.args.on c.args.name.now)
    (λ e. ap (λ (f : DocValue). text_of f.cells) e) c.write_shared-done.ensures.ok c.write_shared-done.ensures.unchanged in
    let others = map widget_value c.self.inside.others.items in
    let drafts = tag_drafts_at MOST_SPANS within c.args.on c.args.name.now old.cells in
    let edited = listed_if c.args.on c.args.name.now (with_tag_at old within c.args.on c.args.name.now) in
    let view = viewed old (widget_value c.self.inside.widget) others in
    let made = on_ok_weaker c.write_shared-done.result (λ e. ap (λ (f : DocValue). viewed f (widget_value c.self.inside.widget) others) e) c.write_shared-done.ensures.ok in
    let same = on_err_weaker c.write_shared-done.result (λ e. ap (λ (f : DocValue). viewed f (widget_value c.self.inside.widget) others) e) c.write_shared-done.ensures.unchanged in
    record {
      own = subst (λ n. IsOwnOf n (widget_value c.self.inside.widget)) (sym (ap length text)) c.self.invariant.own;
      others = subst (λ n. AllByRecursion (IsOwnOf n) others) (sym (ap length text)) c.self.invariant.others;
      limits = order_made c.write_shared-done.result view (viewed (logged old drafts edited) (widget_value c.self.inside.widget) others) (viewed c.write_shared-done.new.self (widget_value c.self.inside.widget) others)
          c.kept.ensures.history c.kept.ensures.document.cells c.log.ensures.history c.log.ensures.cells (logged_grows view drafts edited) made same c.self.invariant.limits;
    }

pub invariant_of-self : goal.invariant_of-self
invariant_of-self g c =
    let others = map widget_value c.self.inside.others.items in
    let cells = c.self.inside.doc.cells in
    either_way c.select.result
    (λ e. subst (λ (w : WidgetValue). AreWidgetsOf cells w others) (sym e) (widgets_selecting cells (widget_value c.self.inside.widget) others _ c.self.invariant))
    (λ e. subst (λ (w : WidgetValue). AreWidgetsOf cells w others) (sym e) c.self.invariant) c.select.ensures.ok c.select.ensures.unchanged

pub returns-clause-ok : goal.returns-clause-ok
returns-clause-ok g c =
    let old = c.self.inside.doc in
    let view = viewed old (widget_value c.self.inside.widget) (map widget_value c.self.inside.others.items) in
    let on = c.args.on in
    let name = c.args.name.now in
    let cells = g.S.TextStore.list c.kept.result.0.now in
    let table = c.kept.result.1.now in
    let ranges = c.args.ranges.now in
    let within = is_covered c.deref-2.result.now in
    let stretch : c.stretch-stretch.result ≡ stretch_of old.cells c.self.inside.widget.limits =
    c.stretch-stretch.ensures.value ∙ ap (stretch_of cells) c.limits.ensures ∙ stretch_kept table cells old.cells c.self.inside.widget.limits c.kept.ensures.cells in
    let few : c.stretch-stretch.result.end ≤ length (visible_of old.cells) = omega (arith, c.stretch-stretch.ensures.within, as_visible table cells old c.kept.ensures.cells) in
    let places : (p : ℕ) → within p ≡ places_in_text view (is_covered ranges) p =
    places_are view ranges c.stretch-stretch.result within stretch few (λ p. ap (λ l. is_covered l p) c.deref-2.ensures.value ∙ c.in_ok-ranges.ensures.places p) in
    let named : bytes_eq name sel ≡ false = sym c.eq.ensures ∙ c.if-eq.false in
    both_ok c.write_shared-done.result
    (λ e fits. (
      ap (λ (v : ViewValue). with_tag_in v on name ranges) (sym c.self.view_is) ∙ tag_shared view on name ranges within places named ∙ ap (λ (f : DocValue). record view { doc = f }) (sym e),
      clock_fine c.write_shared-done.new.self.count fits,
    ))
    c.write_shared-done.ensures.ok c.write_shared-done.ensures.within

pub returns-clause-err : goal.returns-clause-err
returns-clause-err g c =
    let old = c.self.inside.doc in
    let view = viewed old (widget_value c.self.inside.widget) (map widget_value c.self.inside.others.items) in
    let on = c.args.on in
    let name = c.args.name.now in
    let cells = g.S.TextStore.list c.kept.result.0.now in
    let table = c.kept.result.1.now in
    let ranges = c.args.ranges.now in
    let within = is_covered c.deref-2.result.now in
    let stretch : c.stretch-stretch.result ≡ stretch_of old.cells c.self.inside.widget.limits =
    c.stretch-stretch.ensures.value ∙ ap (stretch_of cells) c.limits.ensures ∙ stretch_kept table cells old.cells c.self.inside.widget.limits c.kept.ensures.cells in
    let few : c.stretch-stretch.result.end ≤ length (visible_of old.cells) = omega (arith, c.stretch-stretch.ensures.within, as_visible table cells old c.kept.ensures.cells) in
    let places : (p : ℕ) → within p ≡ places_in_text view (is_covered ranges) p =
    places_are view ranges c.stretch-stretch.result within stretch few (λ p. ap (λ l. is_covered l p) c.deref-2.ensures.value ∙ c.in_ok-ranges.ensures.places p) in
    let named : bytes_eq name sel ≡ false = sym c.eq.ensures ∙ c.if-eq.false in
    let same = ap (λ (v : ViewValue). with_tag_in v on name ranges) (sym c.self.view_is) ∙ tag_shared view on name ranges within places named in
    IfErr-weaker c.write_shared-done.result _ _
    (λ fault h. elim h [
      | inl e ↦ inl e
      | inr p ↦ inr (ap (λ (x : ViewValue). clock_check x.doc.count) same
          ∙ ap clock_check (listed_count on name (with_tag_at old within on name))
          ∙ clock_spent (with_tag_at old within on name).count p.1 ∙ ap (λ x. Some x) (sym p.0))
    ]) c.write_shared-done.ensures.err
