use Rattle.std.proofs.lemmas.Result.{err_from_is_err_and}
use Rattle.rt_words.specs.Spelling.{escape_of}
use Rattle.rt_stamps.proofs.Writes.{writes_until}
use Rattle.rt_words.proofs.writing.write_all_escaped.Goals as goal

pub returns-in_err-write_escaped : goal.returns-in_err-write_escaped
returns-in_err-write_escaped g c =
    let p = err_from_is_err_and c.from_residual.result c.from_residual.ensures.1 in
    rw (p.1, p.2) (writes_until escape_of _ _ _ _ c.args.word.now c.loop-byte.byte-index _ c.loop-byte-test.true c.loop-byte.invariant.wrote c.loop-byte.invariant.failures c.in_err-write_escaped.ensures)
