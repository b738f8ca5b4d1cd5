use Rattle.std.proofs.Common.{◌≡◌, ◌++◌, List, length}
use Rattle.rt_ops.specs.Operations.{Operation}
use Rattle.rt_rga.proofs.NotedTags.{AreCovered}
use Rattle.rt_rga.proofs.noting.are_disjoint.Given as goal

abbrev pub decreases-loop-op : goal.decreases-loop-op
decreases-loop-op l = length l.left

-- the operations behind those that are left are disjoint, and what their Tags name is kept by their names
abbrev pub invariant-loop-op : goal.invariant-loop-op
invariant-loop-op l = record {
  behind : List Operation;
  whole : l.fn.ops ≡ l.left ++ behind;
  covered : AreCovered l.extents behind;
}
