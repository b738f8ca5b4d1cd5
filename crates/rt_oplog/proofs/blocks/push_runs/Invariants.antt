use Rattle.std.proofs.Common.{◌≡◌, ◌++◌, take}
use Rattle.rt_oplog.specs.Runs.{places_in}
use Rattle.rt_oplog.proofs.blocks.push_runs.Given as goal

abbrev pub invariant-loop-run : goal.invariant-loop-run
invariant-loop-run l = l.places.items ≡ l.fn.places.items ++ places_in (take l.run-index l.runs)
