use Rattle.std.proofs.Common.{◌∙◌, sym, ap, Ok, inl}
use Rattle.std.specs.Prelude.{encode_utf8_all}
use Rattle.std.proofs.lemmas.Result.{IfOk-weaker, err_from_is_err_and, IfErr-weaker}
use Rattle.rt_text.specs.Ranges.{text_between}
use Rattle.rt_text.specs.Widgets.{text_shown, widget_of}
use Rattle.rt_text.proofs.Checks.{two_given, first_refused, second_refused}
use Rattle.rt_text.proofs.view_ref.ViewRef.get.Goals as goal

pub returns-in_err-start : goal.returns-in_err-start
returns-in_err-start g c =
    let p = err_from_is_err_and c.from_residual.result c.from_residual.ensures.1 in
    rw (p.1, p.2) (record { ok = tt; err = first_refused (widget_of c.args.self.now) c.args.from.now c.args.to.now (λ a b. encode_utf8_all (text_between (text_shown c.args.self.now) a b)) c.in_err-start.field-0.0 c.in_err-start.ensures.err })

pub returns-in_err-end : goal.returns-in_err-end
returns-in_err-end g c =
    let p = err_from_is_err_and c.from_residual-in_err-end.result c.from_residual-in_err-end.ensures.1 in
    rw (p.1, p.2) (record { ok = tt; err = second_refused (widget_of c.args.self.now) c.args.from.now c.args.to.now (λ a b. encode_utf8_all (text_between (text_shown c.args.self.now) a b)) c.in_ok-start.start c.in_err-end.field-0.0 c.in_ok-start.ensures.ok c.in_err-end.ensures.err })

pub returns-clause-err : goal.returns-clause-err
returns-clause-err g c = IfErr-weaker c.text.result _ _ (λ fault h. inl h) c.text.ensures.err

pub returns-clause-ok : goal.returns-clause-ok
returns-clause-ok g c =
    let view = c.args.self.now in
    let start = c.in_ok-start.start in
    let end = c.in_ok-end.end in
    IfOk-weaker c.text.result _ _
    (λ found h. two_given (widget_of view) c.args.from.now c.args.to.now (λ a b. encode_utf8_all (text_between (text_shown view) a b)) start end c.in_ok-start.ensures.ok c.in_ok-end.ensures.ok
    ∙ ap (λ w. Ok w) (sym h)) c.text.ensures.ok
