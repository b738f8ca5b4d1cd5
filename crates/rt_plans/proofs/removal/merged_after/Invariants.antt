use Rattle.std.proofs.Common.{◌≡◌, ◌++◌, drop}
use Rattle.rt_plans.proofs.MergingLaws.{merged_from}
use Rattle.rt_plans.proofs.removal.merged_after.Given as goal

abbrev pub invariant-loop-range : goal.invariant-loop-range
invariant-loop-range l = l.merged.items ++ merged_from l.current (drop l.range-index l.rest) ≡ merged_from l.fn.first l.rest
