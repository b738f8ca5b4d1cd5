use Rattle.std.proofs.Common.{◌≡◌, ◌≤◌, ◌-◌, ◌++◌, length, drop}
use Rattle.rt_text.specs.Ranges.{ranges_of}
use Rattle.rt_text.proofs.range.ranges_of.Given as goal

abbrev pub invariant-loop-i : goal.invariant-loop-i
invariant-loop-i l = record {
  same : l.ranges.items ++ ranges_of (drop l.i l.places) ≡ ranges_of l.places;
  within : l.i ≤ length l.places;
}

abbrev pub decreases-loop-i : goal.decreases-loop-i
decreases-loop-i l = length l.places - l.i
