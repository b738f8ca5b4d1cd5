use Rattle.std.proofs.Common.{refl}
use Rattle.rt_tagcmd.specs.MarkCommands.{mark_set}
use Rattle.rt_peers.proofs.Steps.{changed_answers}
use Rattle.rt_peers.proofs.commands.marking.set_mark.Goals as goal

pub returns : goal.returns
returns c =
    changed_answers c.args.view.now _ _ _ _ c.mark_set-set.result c.changed.result refl (λ i. mark_set c.args.view.now (c.text.ensures i) (c.text-2.ensures i))
    c.mark_set-set.ensures.ok c.mark_set-set.ensures.err c.mark_set-set.ensures.unchanged c.changed.ensures
