use Rattle.std.proofs.Common.{◌≡◌, ◌++◌, take}
use Rattle.rt_oplog.specs.Runs.{places_of}
use Rattle.rt_oplog.proofs.blocks.push_run.Given as goal

abbrev pub invariant-loop-number : goal.invariant-loop-number
invariant-loop-number l = l.places.items ≡ l.fn.places.items ++ take l.number (places_of l.run)
