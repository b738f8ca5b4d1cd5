use Rattle.std.proofs.Common.{◌≡◌, length, take}
use Rattle.rt_oplog.specs.Runs.{places_in}
use Rattle.rt_oplog.proofs.runs.count.Given as goal

abbrev pub invariant-loop-run : goal.invariant-loop-run
invariant-loop-run l = l.many ≡ length (places_in (take l.run-index l.runs))
