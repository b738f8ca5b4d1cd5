use Rattle.std.proofs.Common.{◌≡◌, ◌++◌, drop}
use Rattle.rt_rga.proofs.StateRuns.{attached, runs}
use Rattle.rt_rga.proofs.tagging.state_runs.Given as goal

abbrev pub invariant-loop-cell : goal.invariant-loop-cell
invariant-loop-cell l = l.runs.items ++ attached (record { span = l.span; state = l.state }) (runs (drop l.cell-index l.others)) ≡ runs l.cells
