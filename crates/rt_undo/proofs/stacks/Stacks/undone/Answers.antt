use Rattle.std.proofs.Common.{◌∙◌, ap, subst, sym}
use Rattle.rt_undo.specs.Actions.{group_of}
use Rattle.rt_undo.specs.Groups.{NoneMoves, groups_of}
use Rattle.rt_undo.specs.Renames.{now_of}
use Rattle.rt_undo.specs.Seen.{UndoStacks, history_kept}
use Rattle.rt_undo.specs.Undo.{renamed_by, undo_done}
use Rattle.rt_undo.proofs.Histories.{group_still, groups_more, undo_renamed}
use Rattle.rt_undo.proofs.stacks.Stacks.undone.Goals as goal

pub returns-clause-history : goal.returns-clause-history
returns-clause-history c =
    let s = c.self.inside in
    let f = now_of s.renames in
    let reverted = group_of c.args.reverted.items in
    let stays : UndoStacks → Type 0 = λ v. NoneMoves v.moves reverted in
    (λ i. renamed_by f (record (history_kept s) {
      closed = c.drop_last.ensures.groups i;
      current = group_of (c.drop_last.ensures.empty i);
      undone = (ap (λ l. groups_of l) c.push_group.ensures.items ∙ groups_more s.undone.items c.args.reverted) i;
      kept = c.drop_last.ensures.kept.0 i;
      forced = c.drop_last.ensures.kept.1 i;
    }))
    ∙ undo_renamed f reverted (history_kept s) (group_still s.renames reverted (subst stays (sym c.self.view_is) c.requires.still))
    ∙ ap (λ v. undo_done reverted v.history) c.self.view_is
