use Rattle.std.proofs.Common.{refl}
use Rattle.rt_tagcmd.specs.TagCommands.{tag_lowered}
use Rattle.rt_peers.proofs.Steps.{changed_exactly}
use Rattle.rt_peers.proofs.TakesNone.{changed_only}
use Rattle.rt_peers.proofs.commands.tagging.lower.Goals as goal

pub returns-clause-answers : goal.returns-clause-answers
returns-clause-answers c =
    changed_exactly c.args.view.now _ _ _ _ c.tag_lower-lowered.result c.changed.result refl (λ i. tag_lowered c.args.view.now (c.text.ensures i) (c.text_of.ensures i))
    c.tag_lower-lowered.ensures.ok c.tag_lower-lowered.ensures.err c.tag_lower-lowered.ensures.unchanged c.changed.ensures

pub returns-clause-err : goal.returns-clause-err
returns-clause-err c =
    changed_only _ _ c.tag_lower-lowered.result c.changed.result (λ i. tag_lowered c.args.view.now (c.text.ensures i) (c.text_of.ensures i)) c.tag_lower-lowered.ensures.err c.changed.ensures
