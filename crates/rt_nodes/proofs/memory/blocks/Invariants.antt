use Rattle.std.proofs.Common.{◌-◌, ◌≤◌, length, vec_capacity}
use Rattle.rt_nodes.specs.Rows.{AreEmpty}
use Rattle.rt_nodes.proofs.memory.blocks.Given as goal

abbrev pub invariant-loop-alloc : goal.invariant-loop-alloc
invariant-loop-alloc g l = AreEmpty l.capacity l.blocks.items × (length l.blocks.items ≤ l.count) × (l.count ≤ vec_capacity l.blocks)

abbrev pub decreases-loop-alloc : goal.decreases-loop-alloc
decreases-loop-alloc g l = l.count - length l.blocks.items
