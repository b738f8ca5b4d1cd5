use Rattle.std.proofs.Common.{◌∙◌, Ok, ap, sym}
use Rattle.std.proofs.lemmas.Result.{err_from_is_err_and}
use Rattle.rt_text.specs.Comparisons.{holds_of}
use Rattle.rt_text.specs.Widgets.{widget_of}
use Rattle.rt_text.proofs.Checks.{first_refused, second_refused, two_given}
use Rattle.rt_text.proofs.view_ref.ViewRef.compare.Goals as goal

pub returns-in_err-left : goal.returns-in_err-left
returns-in_err-left g c =
    let p = err_from_is_err_and c.from_residual.result c.from_residual.ensures.1 in
    rw (p.1, p.2) (record { ok = tt; err = first_refused (widget_of c.args.self.now) c.args.first.now c.args.second.now (λ a b. holds_of c.args.comparison a b) c.in_err-left.field-0.0 c.in_err-left.ensures.err })

pub returns-in_err-right : goal.returns-in_err-right
returns-in_err-right g c =
    let p = err_from_is_err_and c.from_residual-in_err-right.result c.from_residual-in_err-right.ensures.1 in
    rw (p.1, p.2) (record { ok = tt; err = second_refused (widget_of c.args.self.now) c.args.first.now c.args.second.now (λ a b. holds_of c.args.comparison a b) c.in_ok-left.left c.in_err-right.field-0.0 c.in_ok-left.ensures.ok c.in_err-right.ensures.err })

pub returns : goal.returns
returns g c = record {
  ok = two_given (widget_of c.args.self.now) c.args.first.now c.args.second.now (λ a b. holds_of c.args.comparison a b) c.in_ok-left.left c.in_ok-right.right c.in_ok-left.ensures.ok c.in_ok-right.ensures.ok
      ∙ ap (λ b. Ok b) (sym c.holds.ensures);
  err = tt;
}
