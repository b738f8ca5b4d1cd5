use Rattle.std.proofs.Common.{◌∙◌, ap, Ok, sym}
use Rattle.std.proofs.lemmas.Result.{err_from_is_err_and}
use Rattle.rt_marks.specs.Marks.{comes_before, find_last}
use Rattle.rt_text.specs.Widgets.{marks_of}
use Rattle.rt_tagcmd.specs.Looking.{looked_from}
use Rattle.rt_tagcmd.specs.MarkCommands.{mark_previous, found_name}
use Rattle.rt_tagcmd.proofs.LookingLaws.{found_from, previous_found, refused_from}
use Rattle.rt_tagcmd.proofs.mark_order.mark_previous.Goals as goal

pub returns-in_err-here-clause-err : goal.returns-in_err-here-clause-err
returns-in_err-here-clause-err g c =
    let view = c.args.view.now in
    let word = c.args.word.now in
    let law = previous_found view word c.order.ensures.named c.order.ensures.names in
    let p = err_from_is_err_and c.from_residual.result c.from_residual.ensures.1 in
    rw p.1 (refused_from (mark_previous view word) (looked_from view word) (λ m. found_name (find_last (λ x. comes_before x m) (marks_of view))) p.0 c.in_err-here.field-0.0 law c.in_err-here.ensures.err p.2)

pub returns-clause-ok : goal.returns-clause-ok
returns-clause-ok g c =
    let view = c.args.view.now in
    let word = c.args.word.now in
    let law = previous_found view word c.order.ensures.named c.order.ensures.names in
    law ∙ ap (found_from (λ m. found_name (find_last (λ x. comes_before x m) (marks_of view)))) c.in_ok-here.ensures.ok
    ∙ sym (ap (λ v. Ok v) (c.found_name.ensures ∙ ap found_name c.last_before.ensures))
