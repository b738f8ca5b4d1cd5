use Rattle.std.proofs.Common.{◌∷◌}
use Rattle.std.proofs.lemmas.Result.{err_from_is_err_and}
use Rattle.rt_files.specs.Shown.{text_of_span}
use Rattle.rt_stamps.proofs.Writes.{writes_until}
use Rattle.rt_files.proofs.parts.write_spans.Goals as goal

pub returns-in_err-write_spaced : goal.returns-in_err-write_spaced
returns-in_err-write_spaced g c =
    let p = err_from_is_err_and c.from_residual.result c.from_residual.ensures.1 in
    rw (p.1, p.2)
    (writes_until (λ span. 32 ∷ text_of_span span) _ _ _ _ c.args.spans.now c.loop-span.span-index _ c.loop-span-test.true c.loop-span.invariant.wrote c.loop-span.invariant.failures c.in_err-write_spaced.ensures)
