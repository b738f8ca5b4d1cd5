use Rattle.std.proofs.Common.{refl}
use Rattle.rt_tagcmd.specs.TagCommands.{tag_added}
use Rattle.rt_peers.proofs.Steps.{changed_answers}
use Rattle.rt_peers.proofs.commands.tagging.add_tag.Goals as goal

pub returns : goal.returns
returns c =
    changed_answers c.args.view.now _ _ _ _ c.tag_add-added.result c.changed.result refl (λ i. tag_added c.args.view.now (c.text.ensures i) (c.all.ensures i))
    c.tag_add-added.ensures.ok c.tag_add-added.ensures.err c.tag_add-added.ensures.unchanged c.changed.ensures
