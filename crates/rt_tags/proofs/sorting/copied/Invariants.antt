use Rattle.std.proofs.Common.{◌≡◌, take}
use Rattle.rt_tags.proofs.sorting.copied.Given as goal

abbrev pub invariant-loop-entry : goal.invariant-loop-entry
invariant-loop-entry l = l.out.items ≡ take l.entry-index l.entries
