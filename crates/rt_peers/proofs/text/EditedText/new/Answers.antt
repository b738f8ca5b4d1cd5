use Rattle.std.proofs.Common.{◌∙◌, subst, sym}
use Rattle.std.specs.List.{AllByRecursion}
use Rattle.std.proofs.lemmas.Result.{err_from_is_err_and}
use Rattle.rt_stamps.specs.Words.{Word}
use Rattle.std.specs.Prelude.{List}
use Rattle.rt_revert.specs.ReversionLaws.{AllMayRevert}
use Rattle.rt_undo.specs.Undo.{UndoHistory}
use Rattle.rt_peers.proofs.Growing.{none_taken}
use Rattle.rt_peers.proofs.text.EditedText.new.Goals as goal

pub returns-in_err-recorder-clause-err : goal.returns-in_err-recorder-clause-err
returns-in_err-recorder-clause-err c =
    let p = err_from_is_err_and c.from_residual-in_err-recorder.result c.from_residual-in_err-recorder.ensures.1 in
    rw p.1 (p.2 ∙ c.in_err-recorder.ensures.err)

pub invariant_of-result : goal.invariant_of-result
invariant_of-result c =
    let none = c.in_ok-recorder.ensures.history in
    record {
      gone = λ s back. let never = c.in_ok-recorder.ensures.came_back s in absurd (cc (never, back));
      taken = none_taken _ _ none;
      closed = subst (λ (h : UndoHistory (List Word)). AllByRecursion AllMayRevert h.closed) (sym none) tt;
      current = subst (λ (h : UndoHistory (List Word)). AllMayRevert h.current) (sym none) tt;
      undone = subst (λ (h : UndoHistory (List Word)). AllByRecursion AllMayRevert h.undone) (sym none) tt;
    }

pub returns-in_err-store : goal.returns-in_err-store
returns-in_err-store c =
    let (y, is, gives) = err_from_is_err_and c.from_residual.result c.from_residual.ensures.1 in
    rw (is, gives) (record { ok = tt; err = c.in_err-store.ensures.err })

pub returns-in_err-view : goal.returns-in_err-view
returns-in_err-view c =
    let (y, is, gives) = err_from_is_err_and c.from_residual-in_err-view.result c.from_residual-in_err-view.ensures.1 in
    rw (is, gives) (record { ok = tt; err = c.in_err-view.ensures.err })

pub returns-in_err-recorder-clause-ok : goal.returns-in_err-recorder-clause-ok
returns-in_err-recorder-clause-ok c =
    let (y, is, gives) = err_from_is_err_and c.from_residual-in_err-recorder.result c.from_residual-in_err-recorder.ensures.1 in
    rw is tt
