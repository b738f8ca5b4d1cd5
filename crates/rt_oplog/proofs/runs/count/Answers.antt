use Rattle.std.proofs.Common.{take, arith}
use Rattle.std.proofs.lemmas.List.{length-take-le}
use Rattle.rt_oplog.proofs.InRuns.{few_places, length_of}
use Rattle.rt_oplog.proofs.runs.count.Goals as goal

pub overflow_add-many : goal.overflow_add-many
overflow_add-many c =
    let i = c.loop-run.run-index in
    let runs = c.args.runs.now in
    let front = length-take-le i runs (omega (arith, c.loop-run-test.true)) in
    omega (arith, c.loop-run.invariant, few_places (take i runs), front, c.loop-run-test.true, c.len-many.ensures, length_of c.run-item.result, c.run-item.result.fits, c.requires)
