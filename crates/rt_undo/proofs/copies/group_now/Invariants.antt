use Rattle.std.proofs.Common.{◌≡◌, take}
use Rattle.rt_undo.specs.Actions.{group_of}
use Rattle.rt_undo.specs.Renames.{now_of}
use Rattle.rt_undo.specs.Undo.{with_stamps_in}
use Rattle.rt_undo.proofs.copies.group_now.Given as goal

abbrev pub invariant-loop-action : goal.invariant-loop-action
invariant-loop-action l = group_of l.copy.items ≡ with_stamps_in (now_of l.renames) (group_of (take l.action-index l.group))
