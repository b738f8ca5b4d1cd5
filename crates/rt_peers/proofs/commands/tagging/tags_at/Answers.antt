use Rattle.std.proofs.Common.{◌≡◌, ◌∙◌, Ok, ap, refl, sym}
use Rattle.std.proofs.lemmas.Result.{err_from_is_err_and}
use Rattle.rt_stamps.specs.Words.{as_words}
use Rattle.rt_peers.specs.ViewStep.{told_step}
use Rattle.rt_tagcmd.specs.TagCommands.{tag_names_at}
use Rattle.rt_peers.proofs.Steps.{refused_as}
use Rattle.rt_peers.proofs.commands.tagging.tags_at.Goals as goal

pub returns-in_err-words : goal.returns-in_err-words
returns-in_err-words c =
    let p = err_from_is_err_and c.from_residual.result c.from_residual.ensures.1 in
    rw p.1 (refl, refused_as (λ names. names) c.args.view.now _ _ p.0 c.in_err-words.field-0.0 (λ i. tag_names_at c.args.view.now (c.text.ensures i)) c.in_err-words.ensures.err p.2)

pub returns : goal.returns
returns c =
    let names : tag_names_at c.args.view.now c.args.index.now ≡ Ok (as_words c.in_ok-words.words.items) =
    sym (λ i. tag_names_at c.args.view.now (c.text.ensures i)) ∙ c.in_ok-words.ensures.ok in
    ap (told_step (λ names. names) c.args.view.now) names
