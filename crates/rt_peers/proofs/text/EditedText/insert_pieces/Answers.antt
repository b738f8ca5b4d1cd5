use Rattle.std.proofs.Common.{◌∙◌, ap, map, inl, refl}
use Rattle.std.proofs.lemmas.Result.{err_from_is_err_and}
use Rattle.rt_recording.specs.Edits.{text_inserted}
use Rattle.rt_peers.specs.ViewStep.{as_piece}
use Rattle.rt_peers.proofs.Steps.{changed_answers}
use Rattle.rt_peers.proofs.text.EditedText.insert_pieces.Goals as goal

pub returns-in_err-pieces : goal.returns-in_err-pieces
returns-in_err-pieces c =
    let (y, is, gives) = err_from_is_err_and c.from_residual.result c.from_residual.ensures.1 in
    rw (is, gives) (refl, inl c.in_err-pieces.ensures.err)

pub returns : goal.returns
returns c =
    let pieces = c.deref.ensures.value ∙ c.in_ok-pieces.ensures.ok ∙ ap (map as_piece) c.pieces.ensures in
    changed_answers c.args.self.now _ _ _ _ c.insert-inserted.result c.changed.result c.self.view_is
    (λ i. text_inserted (c.self.view_is i) (c.text.ensures i) (pieces i) (c.rest.ensures i)) c.insert-inserted.ensures.ok c.insert-inserted.ensures.err c.insert-inserted.ensures.unchanged c.changed.ensures
