use Rattle.std.proofs.Common.{◌≡◌, take}
use Rattle.rt_nodes.specs.Nodes.{entries}
use Rattle.rt_tree.specs.Shape.{sum_of}
use Rattle.rt_tree.proofs.find.sum_of.Given as goal

abbrev pub invariant-loop-i : goal.invariant-loop-i
invariant-loop-i l = l.sum ≡ sum_of (take l.i (entries l.mem l.id.index))
