use Rattle.std.proofs.lemmas.Result.{err_from_is_err_and}
use Rattle.std.proofs.Common.{List, ap}
use Rattle.rt_stamps.specs.declared.stamp.Stamp.{Stamp}
use Rattle.rt_text.specs.Owned.{widget_value}
use Rattle.rt_text.proofs.widget.Widget.reserve_if.Goals as goal

pub returns-in_err-reserve : goal.returns-in_err-reserve
returns-in_err-reserve c =
    let p = err_from_is_err_and c.from_residual.result c.from_residual.ensures.1 in
    rw (p.1, p.2) (record { same = ap (λ (s : List Stamp). record (widget_value c.args.self.now) { sel = s }) c.reserve.ensures.same; room = tt; err = c.in_err-reserve.ensures.err })
