use Rattle.std.proofs.Common.{◌≡◌, ◌-◌}
use Rattle.rt_stamps.specs.declared.limits.TheConstants.{GREATEST_COUNT}
use Rattle.rt_undo.specs.Renames.{now_of}
use Rattle.rt_undo.proofs.renames.Renames.now.Given as goal

abbrev pub invariant-loop-step : goal.invariant-loop-step
invariant-loop-step l = now_of l.self-inside.map l.newest ≡ now_of l.self-inside.map l.fn.stamp

abbrev pub decreases-loop-step : goal.decreases-loop-step
decreases-loop-step l = GREATEST_COUNT - l.newest.count
