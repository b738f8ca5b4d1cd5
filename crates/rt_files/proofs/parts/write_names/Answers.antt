use Rattle.std.proofs.Common.{◌∷◌, string_bytes}
use Rattle.std.proofs.lemmas.Result.{err_from_is_err_and}
use Rattle.rt_words.specs.Writing.{text_of_word}
use Rattle.rt_stamps.proofs.Writes.{writes_until}
use Rattle.rt_files.proofs.parts.write_names.Goals as goal

pub returns-in_err-write_spaced : goal.returns-in_err-write_spaced
returns-in_err-write_spaced g c =
    let p = err_from_is_err_and c.from_residual.result c.from_residual.ensures.1 in
    rw (p.1, p.2)
    (writes_until (λ name. 32 ∷ text_of_word (string_bytes name)) _ _ _ _ c.args.names.now c.loop-name.name-index _ c.loop-name-test.true c.loop-name.invariant.wrote c.loop-name.invariant.failures (rw (c.deref.ensures, c.name-item.is) at c.in_err-write_spaced.ensures))
