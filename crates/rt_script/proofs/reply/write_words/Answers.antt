use Rattle.std.proofs.Common.{◌∷◌, string_bytes}
use Rattle.std.proofs.lemmas.Result.{err_from_is_err_and}
use Rattle.rt_words.specs.Writing.{text_of_word}
use Rattle.rt_stamps.proofs.Writes.{writes_until}
use Rattle.rt_script.proofs.reply.write_words.Goals as goal

pub returns-in_err-write_spaced : goal.returns-in_err-write_spaced
returns-in_err-write_spaced g c =
    let p = err_from_is_err_and c.from_residual.result c.from_residual.ensures.1 in
    rw (p.1, p.2)
    (writes_until (λ w. 32 ∷ text_of_word (string_bytes w)) _ _ _ _ c.args.words.now c.loop-word.word-index _ c.loop-word-test.true c.loop-word.invariant.wrote c.loop-word.invariant.failures (rw (c.deref.ensures, c.word-item.is) at c.in_err-write_spaced.ensures))
