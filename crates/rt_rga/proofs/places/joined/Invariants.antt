use Rattle.std.proofs.Common.{◌≡◌, ◌++◌, drop}
use Rattle.rt_rga.proofs.PlaceRuns.{joined_from}
use Rattle.rt_rga.proofs.places.joined.Given as goal

abbrev pub invariant-loop-next : goal.invariant-loop-next
invariant-loop-next l = l.joined.items ++ joined_from l.run (drop l.next-index l.others) ≡ joined_from l.initial.run l.others
