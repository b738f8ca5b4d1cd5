use Rattle.std.proofs.Common.{◌≡◌, ◌++◌, drop}
use Rattle.rt_undo.specs.Groups.{numbers_of_groups}
use Rattle.rt_undo.proofs.flag.push_numbers_of_groups.Given as goal

abbrev pub invariant-loop-group : goal.invariant-loop-group
invariant-loop-group l = l.numbers.items ++ numbers_of_groups (drop l.group-index l.groups) ≡ l.fn.numbers.items ++ numbers_of_groups l.groups
