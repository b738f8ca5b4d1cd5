use Rattle.std.proofs.Common.{◌≤◌, ◌-◌, length}
use Rattle.rt_oplog.specs.Kept.{is_earlier, leading}
use Rattle.rt_oplog.specs.Runs.{places_of}
use Rattle.rt_oplog.proofs.runs.run_before.Given as goal

abbrev pub invariant-loop-low : goal.invariant-loop-low
invariant-loop-low l = record {
  low : l.low ≤ leading (is_earlier l.ops.rows l.stamp) (places_of l.run);
  high : leading (is_earlier l.ops.rows l.stamp) (places_of l.run) ≤ l.high;
  within : l.high ≤ length (places_of l.run);
}

abbrev pub decreases-loop-low : goal.decreases-loop-low
decreases-loop-low l = l.high - l.low
