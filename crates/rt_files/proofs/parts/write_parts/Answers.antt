use Rattle.std.proofs.Common.{◌∷◌}
use Rattle.std.proofs.lemmas.Result.{err_from_is_err_and}
use Rattle.rt_files.specs.Parts.{text_of_part}
use Rattle.rt_stamps.proofs.Writes.{writes_until}
use Rattle.rt_files.proofs.parts.write_parts.Goals as goal

pub returns-in_err-write_spaced : goal.returns-in_err-write_spaced
returns-in_err-write_spaced g c =
    let p = err_from_is_err_and c.from_residual.result c.from_residual.ensures.1 in
    rw (p.1, p.2)
    (writes_until (λ part. 32 ∷ text_of_part part) _ _ _ _ c.args.parts.now c.loop-part.part-index _ c.loop-part-test.true c.loop-part.invariant.wrote c.loop-part.invariant.failures c.in_err-write_spaced.ensures)
