use Rattle.std.proofs.Common.{flat_map}
use Rattle.std.specs.Prelude.{encode_utf8}
use Rattle.std.proofs.lemmas.Result.{err_from_is_err_and}
use Rattle.rt_words.specs.Spelling.{escape_of}
use Rattle.rt_stamps.proofs.Writes.{writes_until}
use Rattle.rt_words.proofs.writing.write_escaped_text.Goals as goal

pub returns-in_err-write_escaped_character : goal.returns-in_err-write_escaped_character
returns-in_err-write_escaped_character g c =
    let p = err_from_is_err_and c.from_residual.result c.from_residual.ensures.1 in
    rw (p.1, p.2) (writes_until (λ c. flat_map escape_of (encode_utf8 c)) _ _ _ _ c.args.text.now c.loop-character.character-index _ c.loop-character-test.true c.loop-character.invariant.wrote c.loop-character.invariant.failures (rw c.character-item.is at c.in_err-write_escaped_character.ensures))
