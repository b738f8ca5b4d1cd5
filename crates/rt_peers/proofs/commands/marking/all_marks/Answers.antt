use Rattle.std.proofs.Common.{◌∙◌, Ok, inl, refl, sym}
use Rattle.std.proofs.lemmas.Result.{err_from_is_err_and}
use Rattle.rt_peers.proofs.commands.marking.all_marks.Goals as goal

pub returns-in_err-words : goal.returns-in_err-words
returns-in_err-words c =
    let p = err_from_is_err_and c.from_residual.result c.from_residual.ensures.1 in
    rw p.1 (refl, inl (p.2 ∙ c.in_err-words.ensures.fault))

pub returns : goal.returns
returns c = λ i. Ok (sym c.in_ok-words.ensures.ok i, c.args.view.now)
