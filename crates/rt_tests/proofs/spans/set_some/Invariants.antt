use Rattle.std.proofs.Common.{◌≤◌, ◌+◌}
use Rattle.rt_tests.proofs.spans.set_some.Given as goal

abbrev pub invariant-loop-value : goal.invariant-loop-value
invariant-loop-value g l = 50 ≤ l.map.room + l.value
