use Rattle.std.proofs.Common.{◌≡◌, true, take}
use Rattle.rt_oplog.specs.Runs.{places_in}
use Rattle.rt_oplog.proofs.Fitting.{fit}
use Rattle.rt_oplog.proofs.file.places_fit.Given as goal

abbrev pub invariant-loop-run : goal.invariant-loop-run
invariant-loop-run l = fit l.ops.rows (places_in (take l.run-index l.runs)) ≡ true
