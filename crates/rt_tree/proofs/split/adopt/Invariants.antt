use Rattle.std.proofs.Common.{take}
use Rattle.rt_nodes.specs.Nodes.{entries}
use Rattle.rt_tree.specs.Changes.{bare, IsAdopted}
use Rattle.rt_tree.proofs.split.adopt.Given as goal

abbrev pub invariant-loop-i : goal.invariant-loop-i
invariant-loop-i l = IsAdopted l.initial.mem l.mem l.id.index (take l.i (entries (bare l.initial.mem) l.id.index))
