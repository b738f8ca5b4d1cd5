use Rattle.std.proofs.Common.{subst, sym, take}
use Rattle.rt_undo.specs.Actions.{group_of}
use Rattle.rt_undo.specs.Groups.{NoneMoves}
use Rattle.rt_undo.proofs.Still.{group_still}
use Rattle.rt_undo.proofs.copies.group_now.Goals as goal

pub returns-clause-still : goal.returns-clause-still
returns-clause-still c =
    let moves = c.args.renames.now in
    subst (NoneMoves moves) (sym c.loop-action.invariant) (group_still moves c.ends.ensures (group_of (take c.loop-action.action-index c.args.group.now)))
