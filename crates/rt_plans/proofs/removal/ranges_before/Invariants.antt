use Rattle.std.proofs.Common.{◌≡◌, ◌++◌, drop}
use Rattle.rt_plans.proofs.MergingLaws.{before}
use Rattle.rt_plans.proofs.removal.ranges_before.Given as goal

abbrev pub invariant-loop-range : goal.invariant-loop-range
invariant-loop-range l = l.before.items ++ before l.end (drop l.range-index l.ranges) ≡ before l.end l.ranges
