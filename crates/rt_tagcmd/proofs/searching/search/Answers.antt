use Rattle.std.proofs.Common.{map, option_to_list}
use Rattle.std.proofs.lemmas.Result.{err_from_is_err_and}
use Rattle.rt_text.specs.Index.{index_check}
use Rattle.rt_text.specs.Widgets.{widget_of}
use Rattle.rt_tagcmd.proofs.Refusals.{refused_behind}
use Rattle.rt_tagcmd.proofs.searching.search.Goals as goal

pub returns-in_err-stop-clause-err : goal.returns-in_err-stop-clause-err
returns-in_err-stop-clause-err g c =
    let check = index_check (widget_of c.args.view.now) in
    let request = c.args.request.now in
    let p = err_from_is_err_and c.from_residual-in_err-stop.result c.from_residual-in_err-stop.ensures.1 in
    rw (p.1, p.2)
    (refused_behind (check request.start) (map check (option_to_list request.stop)) _ _ c.in_err-stop.field-0.0 c.in_ok-start.ensures.checked c.in_err-stop.ensures.err)
