use Rattle.std.proofs.Common.{option_copied, refl}
use Rattle.std.proofs.lemmas.Result.{err_from_is_err_and}
use Rattle.rt_peers.specs.ViewStep.{word_or_none}
use Rattle.rt_tagcmd.specs.MarkCommands.{mark_next}
use Rattle.rt_peers.proofs.Steps.{refused_as, replied_as}
use Rattle.rt_peers.proofs.commands.marking.next_mark.Goals as goal

pub returns-in_err-name : goal.returns-in_err-name
returns-in_err-name c =
    let p = err_from_is_err_and c.from_residual.result c.from_residual.ensures.1 in
    rw p.1 (refl, refused_as word_or_none c.args.view.now _ _ p.0 c.in_err-name.field-0.0 (λ i. mark_next c.args.view.now (c.text.ensures i)) c.in_err-name.ensures.err p.2)

pub returns : goal.returns
returns c = replied_as word_or_none c.args.view.now _ _ (option_copied c.in_ok-name.name) c.name_reply.result (λ i. mark_next c.args.view.now (c.text.ensures i)) c.in_ok-name.ensures.ok c.name_reply.ensures.ok c.name_reply.ensures.err
