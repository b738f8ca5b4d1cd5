use Rattle.rt_rows.specs.Places.{HasPlace}
use Rattle.std.proofs.Common.{◌+◌, inl, inr, ◌∙◌, ap}
use Rattle.std.proofs.lemmas.Result.{err_from_is_err_and}
use Rattle.rt_oplog.specs.Runs.{places_of}
use Rattle.rt_oplog.proofs.Fitting.{part_at}
use Rattle.rt_oplog.proofs.InParts.{all_part}
use Rattle.rt_oplog.proofs.Writing.{part_run}
use Rattle.rt_oplog.proofs.file.write_records.Goals as goal

pub write_run-requires-clause-within : goal.write_run-requires-clause-within
write_run-requires-clause-within g c =
    all_part places_of (HasPlace c.args.ops.now.rows) c.args.runs.now c.loop-run.run-index c.run-item.result c.loop-run-test.true c.run-item.is c.requires.within

pub write_run-requires-clause-room : goal.write_run-requires-clause-room
write_run-requires-clause-room g c = λ one.
    part_at places_of c.args.ops.now.rows c.args.runs.now c.loop-run.run-index c.run-item.result c.loop-run-test.true c.run-item.is (c.requires.room one)

pub returns-in_err-write_run-clause-writes : goal.returns-in_err-write_run-clause-writes
returns-in_err-write_run-clause-writes g c =
    let p = err_from_is_err_and c.from_residual.result c.from_residual.ensures.1 in
    let written = c.in_err-write_run.ensures.writes in
    let before = c.loop-run.invariant.failures in
    rw (p.1, p.2) (record {
      wrote = part_run c.args.version _ _ _ c.args.ops.now.rows c.args.runs.now c.loop-run.run-index c.run-item.result c.loop-run-test.true c.run-item.is c.loop-run.invariant.wrote written.wrote;
      failures = elim written.failures [
        | inl memory ↦ inl (memory.0, memory.1 ∙ before)
        | inr failed ↦ inr (failed.0, failed.1 ∙ ap (λ n. n + 1) before)
      ];
    })
