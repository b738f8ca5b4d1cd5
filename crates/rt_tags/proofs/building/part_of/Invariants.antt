use Rattle.std.proofs.Common.{◌≡◌, ◌++◌, drop}
use Rattle.rt_tags.specs.ManyWrites.{part_writes}
use Rattle.rt_tags.proofs.building.part_of.Given as goal

abbrev pub invariant-loop-entry : goal.invariant-loop-entry
invariant-loop-entry l = l.part.items ++ part_writes l.remainder l.top (drop l.entry-index l.writes) ≡ part_writes l.remainder l.top l.writes
