use Rattle.std.proofs.Common.{◌≡◌, ◌∙◌, List, ap, arith, false, subst, sym}
use Rattle.std.specs.List.{AllByRecursion}
use Rattle.std.specs.Prelude.{IfOk}
use Rattle.rt_stamps.specs.declared.stamp.Stamp.{Stamp}
use Rattle.rt_stamps.specs.Words.{Word}
use Rattle.rt_undo.specs.Undo.{UndoHistory, no_history}
use Rattle.rt_revert.specs.ReversionLaws.{AllMayRevert}
use Rattle.rt_recording.specs.Recordings.{Recording, came_back}
use Rattle.rt_recording.specs.Settled.{AreGoneOnce, removed_in_history}
use Rattle.rt_tests_script.proofs.refused.recorded.Goals as goal

-- a new recorder names no character
pub invariant_of-result : goal.invariant_of-result
invariant_of-result g c =
    let new = c.expect-recorder.result in
    let kept = c.set_undo.new.self in
    let none : kept.history ≡ no_history = ap (λ (r : Recording). r.history) c.set_undo.ensures
    ∙ subst (λ r. IfOk r (λ (recorder : Recording). recorder.history ≡ no_history)) c.expect-recorder.ensures c.new.ensures.history in
    let never : (s : Stamp) → came_back kept s ≡ false = λ s. ap (λ (r : Recording). came_back r s) c.set_undo.ensures
    ∙ subst (λ r. IfOk r (λ (recorder : Recording). (stamp : Stamp) → came_back recorder stamp ≡ false)) c.expect-recorder.ensures c.new.ensures.came_back s in
    record {
      gone = λ s back. let stayed = never s in absurd (cc (stayed, back));
      taken = subst (λ (h : UndoHistory (List Word)). AreGoneOnce c.args.view.doc.cells (removed_in_history h)) (sym none) (λ s. omega arith);
      closed = subst (λ (h : UndoHistory (List Word)). AllByRecursion AllMayRevert h.closed) (sym none) tt;
      current = subst (λ (h : UndoHistory (List Word)). AllMayRevert h.current) (sym none) tt;
      undone = subst (λ (h : UndoHistory (List Word)). AllByRecursion AllMayRevert h.undone) (sym none) tt;
    }
