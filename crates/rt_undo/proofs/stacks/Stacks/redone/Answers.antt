use Rattle.std.proofs.Common.{◌∙◌, ◌++◌, [], ◌∷◌, ap, subst, sym}
use Rattle.rt_undo.specs.Actions.{group_of}
use Rattle.rt_undo.specs.Groups.{NoneMoves, groups_of}
use Rattle.rt_undo.specs.Renames.{now_of}
use Rattle.rt_undo.specs.Seen.{UndoStacks, history_kept}
use Rattle.rt_undo.specs.Undo.{limited, renamed_by}
use Rattle.rt_undo.proofs.Histories.{group_still, groups_more, put_back, put_back_renamed}
use Rattle.rt_undo.proofs.stacks.Stacks.redone.Goals as goal

pub returns-clause-history : goal.returns-clause-history
returns-clause-history c =
    let s = c.self.inside in
    let f = now_of s.renames in
    let reverted = group_of c.args.reverted.items in
    let stays : UndoStacks → Type 0 = λ v. NoneMoves v.moves reverted in
    c.limit.ensures.history ∙ ap limited ((λ i. renamed_by f (record (history_kept s) {
      closed = (ap (λ l. groups_of l) c.push_group.ensures.items ∙ groups_more c.close.new.closed.items c.args.reverted
          ∙ ap (λ l. l ++ reverted ∷ []) c.close.ensures.groups) i;
      current = group_of ((ap (λ v. v.items) c.close.ensures.next ∙ c.new-next.ensures.items) i);
      undone = c.drop_group.ensures.groups i;
      kept = (c.tell_group.ensures.kept.0 ∙ c.close.ensures.kept.0) i;
      forced = (c.tell_group.ensures.kept.1 ∙ c.close.ensures.kept.1) i;
    }))
    ∙ put_back_renamed f reverted (history_kept s) (group_still s.renames reverted (subst stays (sym c.self.view_is) c.requires.still))
    ∙ ap (λ v. put_back reverted v.history) c.self.view_is)
