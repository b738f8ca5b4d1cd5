use Rattle.std.proofs.Common.{refl}
use Rattle.std.proofs.lemmas.Result.{err_from_is_err_and}
use Rattle.rt_stamps.specs.Places.{text_of_position}
use Rattle.rt_peers.specs.ViewStep.{one_word}
use Rattle.rt_text.specs.Commands.{position_of_index}
use Rattle.rt_peers.proofs.Steps.{refused_as, replied_as}
use Rattle.rt_peers.proofs.commands.reading.index.Goals as goal

pub returns-in_err-position : goal.returns-in_err-position
returns-in_err-position c =
    let p = err_from_is_err_and c.from_residual.result c.from_residual.ensures.1 in
    rw p.1 (refl, refused_as (λ position. one_word (text_of_position position)) c.args.view.now _ _ p.0 c.in_err-position.field-0.0 (λ i. position_of_index c.args.view.now (c.text.ensures i)) c.in_err-position.ensures.err p.2)

pub returns : goal.returns
returns c = replied_as (λ position. one_word (text_of_position position)) c.args.view.now _ _ c.in_ok-position.position c.one_word.result (λ i. position_of_index c.args.view.now (c.text.ensures i)) c.in_ok-position.ensures.ok (rw (← c.in_ok-text.ensures.ok) c.one_word.ensures.ok) c.one_word.ensures.err
