use Rattle.std.proofs.Common.{◌-◌, ◌+◌, length}
use Rattle.rt_oplog.proofs.Merging.{IsMerging}
use Rattle.rt_oplog.proofs.merge.merge.Given as goal

abbrev pub invariant-loop-left : goal.invariant-loop-left
invariant-loop-left l = IsMerging l.initial.ops.rows l.more.rows l.mine l.theirs l.ops.rows l.order.items l.left l.right

abbrev pub decreases-loop-left : goal.decreases-loop-left
decreases-loop-left l = (length l.mine - l.left) + (length l.theirs - l.right)
