use Rattle.std.proofs.Common.{refl}
use Rattle.rt_tagcmd.specs.TagCommands.{tag_removed}
use Rattle.rt_peers.proofs.Steps.{changed_answers}
use Rattle.rt_peers.proofs.commands.tagging.remove_tag.Goals as goal

pub returns : goal.returns
returns c =
    changed_answers c.args.view.now _ _ _ _ c.tag_remove-removed.result c.changed.result refl (λ i. tag_removed c.args.view.now (c.text.ensures i) (c.all.ensures i))
    c.tag_remove-removed.ensures.ok c.tag_remove-removed.ensures.err c.tag_remove-removed.ensures.unchanged c.changed.ensures
