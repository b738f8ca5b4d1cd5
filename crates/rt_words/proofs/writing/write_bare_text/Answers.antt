use Rattle.std.specs.Prelude.{encode_utf8}
use Rattle.std.proofs.lemmas.Result.{err_from_is_err_and}
use Rattle.rt_stamps.proofs.Writes.{writes_until}
use Rattle.rt_words.proofs.writing.write_bare_text.Goals as goal

pub returns-in_err-write_character : goal.returns-in_err-write_character
returns-in_err-write_character g c =
    let p = err_from_is_err_and c.from_residual.result c.from_residual.ensures.1 in
    rw (p.1, p.2) (writes_until encode_utf8 _ _ _ _ c.args.text.now c.loop-character.character-index _ c.loop-character-test.true c.loop-character.invariant.wrote c.loop-character.invariant.failures (rw c.character-item.is at c.in_err-write_character.ensures))
