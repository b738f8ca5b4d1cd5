use Rattle.std.proofs.Common.{◌≡◌}
use Rattle.rt_text.specs.Neighbours.{ends_behind}
use Rattle.rt_text.proofs.neighbours.ends_behind.Given as goal

abbrev pub invariant-loop-c : goal.invariant-loop-c
invariant-loop-c l = l.ends ≡ ends_behind l.before l.yielded
