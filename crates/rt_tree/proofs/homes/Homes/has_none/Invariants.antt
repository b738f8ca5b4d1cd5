use Rattle.rt_tree.specs.Homes.{AreUnknown}
use Rattle.rt_tree.proofs.homes.Homes.has_none.Given as goal

abbrev pub invariant-loop-offset : goal.invariant-loop-offset
invariant-loop-offset l = AreUnknown l.self.leaves l.run l.offset
