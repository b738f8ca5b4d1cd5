use Rattle.std.proofs.Common.{◌≡◌, take}
use Rattle.rt_tags.specs.Kept.{tags_on}
use Rattle.rt_tags.proofs.writes.tags_on.Given as goal

abbrev pub invariant-loop-entry : goal.invariant-loop-entry
invariant-loop-entry l = l.on.items ≡ tags_on (take l.entry-index l.entries)
