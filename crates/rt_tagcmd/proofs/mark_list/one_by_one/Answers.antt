use Rattle.std.proofs.Common.{◌∙◌, ◌++◌, ap, sym, map, refl}
use Rattle.rt_marks.specs.Seen.{spotted}
use Rattle.rt_text.specs.Widgets.{marks_of}
use Rattle.rt_tagcmd.specs.Looking.{edge}
use Rattle.rt_tagcmd.specs.MarkLists.{marks_ahead}
use Rattle.rt_tagcmd.proofs.MarkListLaws.{left_first}
use Rattle.std.proofs.lemmas.Result.{err_from_is_err_and}
use Rattle.rt_tagcmd.proofs.mark_list.one_by_one.Goals as goal

pub loop-spot-init : goal.loop-spot-init
loop-spot-init g c =
    let view = c.args.view.now in
    left_first c.args.from c.args.behind (marks_of view) c.order.ensures.names
    ∙ ap (λ v. map spotted v ++ marks_ahead c.args.behind (edge c.args.from) (marks_of view)) (sym c.new-spots.ensures.items)

pub returns-in_err-push : goal.returns-in_err-push
returns-in_err-push g c =
    let (y, is, gives) = err_from_is_err_and c.from_residual.result c.from_residual.ensures.1 in
    rw (is, gives) (record { ok = tt; err = refl })
