use Rattle.std.proofs.Common.{refl}
use Rattle.std.proofs.lemmas.Result.{err_from_is_err_and}
use Rattle.rt_peers.specs.ViewStep.{one_word, text_of_bool}
use Rattle.rt_text.specs.Commands.{compared}
use Rattle.rt_peers.proofs.Steps.{refused_as, replied_as}
use Rattle.rt_peers.proofs.commands.reading.compare.Goals as goal

pub returns-in_err-holds : goal.returns-in_err-holds
returns-in_err-holds c =
    let p = err_from_is_err_and c.from_residual.result c.from_residual.ensures.1 in
    rw p.1 (refl, refused_as (λ holds. one_word (text_of_bool holds)) c.args.view.now _ _ p.0 c.in_err-holds.field-0.0 (λ i. compared c.args.view.now (c.text.ensures i) c.args.comparison (c.text-2.ensures i)) c.in_err-holds.ensures.err p.2)

pub returns : goal.returns
returns c = replied_as (λ holds. one_word (text_of_bool holds)) c.args.view.now _ _ c.in_ok-holds.holds c.truth.result (λ i. compared c.args.view.now (c.text.ensures i) c.args.comparison (c.text-2.ensures i)) c.in_ok-holds.ensures.ok c.truth.ensures.ok c.truth.ensures.err
