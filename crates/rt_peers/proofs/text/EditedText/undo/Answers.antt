use Rattle.std.proofs.Common.{inl, refl}
use Rattle.std.proofs.lemmas.Result.{err_from_is_err_and}
use Rattle.rt_recording.specs.Reverts.{text_undone}
use Rattle.rt_peers.proofs.Steps.{changed_answers}
use Rattle.rt_peers.proofs.text.EditedText.undo.Goals as goal

pub returns-in_err-copy : goal.returns-in_err-copy
returns-in_err-copy c =
    let (y, is, gives) = err_from_is_err_and c.from_residual.result c.from_residual.ensures.1 in
    rw (is, gives) (refl, inl c.in_err-copy.ensures.err)

pub returns : goal.returns
returns c =
    changed_answers c.args.self.now _ _ _ _ c.undo-undone.result c.changed.result c.self.view_is
    (λ i. text_undone (c.self.view_is i)) c.undo-undone.ensures.ok c.undo-undone.ensures.err c.undo-undone.ensures.unchanged c.changed.ensures
