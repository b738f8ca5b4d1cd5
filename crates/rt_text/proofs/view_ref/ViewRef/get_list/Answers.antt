use Rattle.rt_text.proofs.Refusals.{list_refused}
use Rattle.std.proofs.Common.{◌≡◌, ◌∙◌, arith, map, sym, ap, Ok, inl}
use Rattle.std.proofs.lemmas.Result.{IfOk-weaker, err_from_is_err_and, IfErr-weaker}
use Rattle.rt_stamps.specs.Outcomes.{unless}
use Rattle.rt_stamps.specs.Words.{as_words}
use Rattle.rt_store.specs.Cells.{text_of}
use Rattle.rt_text.specs.Index.{place_at_index}
use Rattle.rt_text.specs.Owned.{widget_value}
use Rattle.rt_text.specs.Ranges.{ranges_of, texts_of}
use Rattle.rt_text.specs.Widgets.{text_shown, widget_of}
use Rattle.rt_text.proofs.SeenLaws.{store_seen}
use Rattle.rt_lines.specs.Stretches.{part}
use Rattle.rt_text.proofs.view_ref.ViewRef.get_list.Goals as goal

pub returns-in_err-ranges : goal.returns-in_err-ranges
returns-in_err-ranges g c =
    let p = err_from_is_err_and c.from_residual.result c.from_residual.ensures.1 in
    rw (p.1, p.2) (record { ok = tt; err = list_refused c.args.self.now (as_words c.args.indices.now) c.in_err-ranges.field-0.0 c.in_err-ranges.ensures.err })

pub returns-clause-err : goal.returns-clause-err
returns-clause-err g c = IfErr-weaker c.texts_of.result _ _ (λ fault h. inl h) c.texts_of.ensures.err

pub texts_of-requires : goal.texts_of-requires
texts_of-requires g c = (omega (arith, c.between.ensures.lines.some), c.between.ensures.lines.within)

pub returns-clause-ok : goal.returns-clause-ok
returns-clause-ok g c =
    let view = c.args.self.now in
    let w = widget_of view in
    let store = g.S.TextStore.list c.between.result.0.now in
    let text : part c.between.result.1 (text_of store) ≡ text_shown view =
    store_seen view c.self.inside.doc.now (widget_value c.self.inside.widget.now) (map widget_value c.self.inside.others.now) c.limits.result c.between.result.1 (text_of store) c.self.view_is c.limits.ensures c.between.ensures.stretch c.between.ensures.text in
    IfOk-weaker c.texts_of.result _ _
    (λ found h. ap (λ f. unless f (texts_of (text_shown view) (ranges_of (map (place_at_index w) (as_words c.args.indices.now))))) c.in_ok-ranges.ensures.checked
    ∙ ap (λ r. Ok (texts_of (text_shown view) r)) (sym (c.deref.ensures.value ∙ c.in_ok-ranges.ensures.ok))
    ∙ ap (λ t. Ok (texts_of t c.deref.result.now)) (sym text) ∙ ap (λ l. Ok l) (sym h)) c.texts_of.ensures.ok
