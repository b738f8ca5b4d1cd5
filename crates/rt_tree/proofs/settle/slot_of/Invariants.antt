use Rattle.std.proofs.Common.{◌≡◌, take}
use Rattle.rt_nodes.specs.Nodes.{entries}
use Rattle.rt_tree.specs.Changes.{bare}
use Rattle.rt_tree.specs.Shape.{child_count}
use Rattle.rt_tree.proofs.settle.slot_of.Given as goal

abbrev pub invariant-loop-i : goal.invariant-loop-i
invariant-loop-i l = child_count l.id.index (take l.i (entries (bare l.mem) l.parent.index)) ≡ 0
