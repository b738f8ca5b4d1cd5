use Rattle.std.proofs.Common.{◌≡◌, ◌∙◌, List, Some, ap, subst, sym}
use Rattle.std.specs.List.{AllByRecursion}
use Rattle.rt_stamps.specs.Words.{Word}
use Rattle.rt_undo.specs.Actions.{group_of}
use Rattle.rt_undo.specs.Undo.{UndoHistory, next_redo, redo_done, renamed_by}
use Rattle.rt_recording.specs.Naming.{named_group}
use Rattle.rt_recording.specs.Recordings.{came_back}
use Rattle.rt_recording.specs.Returns.{IsOther, Return, back_after, stamp_after}
use Rattle.rt_recording.specs.Settled.{AreGoneOnce, removed_in_history}
use Rattle.rt_recording.proofs.OnceReverted.{after_redo, before_redo, beside_redone}
use Rattle.rt_recording.proofs.Settling.{HistoryIsSound, sound_redone}
use Rattle.rt_recording.proofs.recorder.Recorder.redo.Goals as goal

pub returns-clause-settled : goal.returns-clause-settled
returns-clause-settled g c =
    let r = c.in_ok-returns.field-0 in
    let between = c.revert.new.self in
    let settled = c.requires.settled in
    let before : HistoryIsSound c.args.self.now.history = record { closed = settled.closed; current = settled.current; undone = settled.undone } in
    let group = named_group c.args.self.now.table (group_of c.deref.result.now) in
    let is : next_redo c.args.self.now.history ≡ Some group = c.in_ok-group.ensures.ok ∙ ap (λ l. Some (named_group c.args.self.now.table (group_of l))) (sym c.deref.ensures.value) in
    let once = before_redo c.args.view.now.doc.cells c.args.self.now.history group is settled.taken in
    let taken = c.in_ok-returns.ensures.taken (beside_redone c.args.self.now.history) once in
    let after = sound_redone c.deref-2.result.now (named_group between.table (group_of r.actions.items)) c.args.self.now.history between.history c.redone.new.self.history
    (subst (AllByRecursion IsOther) (sym c.deref-2.ensures.value) c.in_ok-returns.ensures.others) c.in_ok-returns.ensures.sound before c.revert.ensures.history c.redone.ensures.history in
    record {
      gone = λ stamp e. c.in_ok-returns.ensures.gone stamp
          (ap (λ (l : List Return). back_after l (came_back between) stamp) (sym c.deref-2.ensures.value) ∙ sym (c.redone.ensures.came_back stamp) ∙ e);
      taken = subst (λ (h : UndoHistory (List Word)). AreGoneOnce c.revert.new.view.doc.cells (removed_in_history h)) (sym (c.redone.ensures.history ∙ (λ i. redo_done (named_group between.table (group_of r.actions.items)) (renamed_by (stamp_after (c.deref-2.ensures.value i)) (c.revert.ensures.history i)))))
          (after_redo c.revert.new.view.doc.cells (stamp_after r.returns.items) c.args.self.now.history (named_group between.table (group_of r.actions.items)) taken);
      closed = after.closed;
      current = after.current;
      undone = after.undone;
    }
