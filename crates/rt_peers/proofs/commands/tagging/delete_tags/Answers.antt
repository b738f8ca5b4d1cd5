use Rattle.std.proofs.Common.{refl}
use Rattle.rt_tagcmd.specs.TagCommands.{tags_deleted}
use Rattle.rt_peers.proofs.Steps.{changed_answers}
use Rattle.rt_peers.proofs.commands.tagging.delete_tags.Goals as goal

pub returns : goal.returns
returns c =
    changed_answers c.args.view.now _ _ _ _ c.tag_delete-deleted.result c.changed.result refl (λ i. tags_deleted c.args.view.now (c.all.ensures i))
    c.tag_delete-deleted.ensures.ok c.tag_delete-deleted.ensures.err c.tag_delete-deleted.ensures.unchanged c.changed.ensures
