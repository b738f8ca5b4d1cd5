use Rattle.std.proofs.Common.{◌≡◌, ◌++◌, drop}
use Rattle.rt_ops.specs.Operations.{stamps_in}
use Rattle.rt_undo.specs.Actions.{group_of}
use Rattle.rt_revert.specs.Named.{named_in}
use Rattle.rt_revert.proofs.named.named_spans.Given as goal

abbrev pub invariant-loop-action : goal.invariant-loop-action
invariant-loop-action l = stamps_in l.spans.items ++ named_in (group_of (drop l.action-index l.group)) ≡ named_in (group_of l.group)
