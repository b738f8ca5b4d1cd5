use Rattle.std.proofs.Common.{refl}
use Rattle.std.proofs.lemmas.Result.{err_from_is_err_and}
use Rattle.rt_stamps.specs.Words.{as_words}
use Rattle.rt_text.specs.Commands.{got_list}
use Rattle.rt_peers.proofs.Steps.{refused_as}
use Rattle.rt_peers.proofs.commands.reading.get_list.Goals as goal

pub returns-in_err-words : goal.returns-in_err-words
returns-in_err-words c =
    let p = err_from_is_err_and c.from_residual.result c.from_residual.ensures.1 in
    rw p.1 (refl, refused_as (λ texts. texts) c.args.view.now _ _ p.0 c.in_err-words.field-0.0 (λ i. got_list c.args.view.now (as_words c.args.indices.now)) c.in_err-words.ensures.err p.2)
