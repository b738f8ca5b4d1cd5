use Rattle.std.proofs.Common.{◌≡◌, ◌+◌, ◌∙◌, arith, length, map, sym, ap, Ok, inl}
use Rattle.std.specs.Prelude.{encode_utf8_all}
use Rattle.std.proofs.lemmas.Result.{IfOk-weaker, err_from_is_err_and, IfErr-weaker}
use Rattle.rt_store.specs.Cells.{text_of}
use Rattle.rt_text.specs.Owned.{widget_value}
use Rattle.rt_text.specs.Ranges.{text_between}
use Rattle.rt_text.specs.Widgets.{text_shown, widget_of}
use Rattle.rt_text.proofs.Checks.{one_given, one_refused}
use Rattle.rt_text.proofs.SeenLaws.{store_seen}
use Rattle.rt_plans.proofs.PlaceLaws.{text_within}
use Rattle.rt_lines.proofs.Parts.{part_length}
use Rattle.rt_lines.specs.Stretches.{part}
use Rattle.rt_text.proofs.view_ref.ViewRef.get_one.Goals as goal

pub returns-in_err-place : goal.returns-in_err-place
returns-in_err-place g c =
    let p = err_from_is_err_and c.from_residual.result c.from_residual.ensures.1 in
    rw (p.1, p.2) (record { ok = tt; err = one_refused (widget_of c.args.self.now) c.args.index.now (λ p. encode_utf8_all (text_between (text_shown c.args.self.now) p (p + 1))) c.in_err-place.field-0.0 c.in_err-place.ensures.err })

pub returns-clause-err : goal.returns-clause-err
returns-clause-err g c = IfErr-weaker c.shown_between.result _ _ (λ fault h. inl h) c.shown_between.ensures.err

pub returns-clause-ok : goal.returns-clause-ok
returns-clause-ok g c =
    let view = c.args.self.now in
    let place = c.in_ok-place.place in
    let store = g.S.TextStore.list c.between.result.0.now in
    let text : part c.between.result.1 (text_of store) ≡ text_shown view =
    store_seen view c.self.inside.doc.now (widget_value c.self.inside.widget.now) (map widget_value c.self.inside.others.now) c.limits.result c.between.result.1 (text_of store) c.self.view_is c.limits.ensures c.between.ensures.stretch c.between.ensures.text in
    let long = part_length c.between.result.1 (text_of store) c.between.ensures.lines.within in
    let next : c.saturating_add.result ≡ place + 1 =
    omega (arith, ap length text, long, c.in_ok-place.ensures.within, c.between.ensures.lines.within, text_within store, c.between.ensures.few, c.saturating_add.ensures) in
    IfOk-weaker c.shown_between.result _ _
    (λ found h. one_given (widget_of view) c.args.index.now (λ p. encode_utf8_all (text_between (text_shown view) p (p + 1))) place c.in_ok-place.ensures.ok
    ∙ (λ i. Ok (encode_utf8_all (text_between (sym text i) place (sym next i)))) ∙ ap (λ w. Ok w) (sym h)) c.shown_between.ensures.ok
