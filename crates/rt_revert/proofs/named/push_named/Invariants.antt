use Rattle.std.proofs.Common.{◌≡◌, ◌++◌, drop, map}
use Rattle.rt_ops.specs.Operations.{stamps_in}
use Rattle.rt_undo.specs.Actions.{action_of, removed_in}
use Rattle.rt_revert.specs.Named.{named_by}
use Rattle.rt_revert.proofs.named.push_named.Given as goal

abbrev pub invariant-loop-part : goal.invariant-loop-part
invariant-loop-part l = stamps_in l.spans.items ++ map (λ r. r.stamp) (removed_in (drop l.part-index l.action.removed.items)) ≡ stamps_in l.fn.spans.items ++ named_by (action_of l.action)
