use Rattle.rt_recording.specs.Edits.{text_deleted}
use Rattle.rt_peers.proofs.Steps.{changed_answers}
use Rattle.rt_peers.proofs.text.EditedText.delete.Goals as goal

pub returns : goal.returns
returns c =
    changed_answers c.args.self.now _ _ _ _ c.delete-deleted.result c.changed.result c.self.view_is
    (λ i. text_deleted (c.self.view_is i) (c.all.ensures i)) c.delete-deleted.ensures.ok c.delete-deleted.ensures.err c.delete-deleted.ensures.unchanged c.changed.ensures
