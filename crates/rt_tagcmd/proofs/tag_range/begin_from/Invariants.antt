use Rattle.std.proofs.Common.{◌≤◌}
use Rattle.rt_tagcmd.proofs.tag_range.begin_from.Given as goal

abbrev pub invariant-loop-low : goal.invariant-loop-low
invariant-loop-low g l = record {
  some : 1 ≤ l.step;
  within : l.low ≤ l.place;
}

abbrev pub decreases-loop-low : goal.decreases-loop-low
decreases-loop-low g l = l.low
