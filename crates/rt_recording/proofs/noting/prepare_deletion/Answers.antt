use Rattle.std.proofs.lemmas.Result.{err_from_is_err_and}
use Rattle.rt_stamps.specs.Words.{as_words}
use Rattle.rt_text.proofs.Deletions.{deleted_index}
use Rattle.rt_recording.proofs.noting.prepare_deletion.Goals as goal

pub returns-in_err-ranges-clause-err : goal.returns-in_err-ranges-clause-err
returns-in_err-ranges-clause-err g c =
    let p = err_from_is_err_and c.from_residual.result c.from_residual.ensures.1 in
    rw p.1 (deleted_index c.args.view.now (as_words c.args.indices.now) p.0 c.in_err-ranges.field-0.0 c.in_err-ranges.ensures.err p.2)
