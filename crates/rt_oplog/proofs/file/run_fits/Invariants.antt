use Rattle.std.proofs.Common.{◌≡◌, true, take}
use Rattle.rt_oplog.specs.Runs.{places_of}
use Rattle.rt_oplog.proofs.Fitting.{fit}
use Rattle.rt_oplog.proofs.file.run_fits.Given as goal

abbrev pub invariant-loop-number : goal.invariant-loop-number
invariant-loop-number l = fit l.ops.rows (take l.number (places_of l.run)) ≡ true
