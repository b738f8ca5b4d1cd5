use Rattle.std.proofs.Common.{◌≡◌, filter, take}
use Rattle.rt_rga.proofs.RetaggedPlaces.{is_switched}
use Rattle.rt_rga.proofs.retagged.switched_runs.Given as goal

abbrev pub invariant-loop-run : goal.invariant-loop-run
invariant-loop-run l = l.switched.items ≡ filter (λ run. is_switched l.fn.states l.on l.name run.cell) (take l.run-index l.runs)
