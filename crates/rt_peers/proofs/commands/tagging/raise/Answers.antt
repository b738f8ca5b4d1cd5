use Rattle.std.proofs.Common.{refl}
use Rattle.rt_tagcmd.specs.TagCommands.{tag_raised}
use Rattle.rt_peers.proofs.Steps.{changed_exactly}
use Rattle.rt_peers.proofs.TakesNone.{changed_only}
use Rattle.rt_peers.proofs.commands.tagging.raise.Goals as goal

pub returns-clause-answers : goal.returns-clause-answers
returns-clause-answers c =
    changed_exactly c.args.view.now _ _ _ _ c.tag_raise-raised.result c.changed.result refl (λ i. tag_raised c.args.view.now (c.text.ensures i) (c.text_of.ensures i))
    c.tag_raise-raised.ensures.ok c.tag_raise-raised.ensures.err c.tag_raise-raised.ensures.unchanged c.changed.ensures

pub returns-clause-err : goal.returns-clause-err
returns-clause-err c =
    changed_only _ _ c.tag_raise-raised.result c.changed.result (λ i. tag_raised c.args.view.now (c.text.ensures i) (c.text_of.ensures i)) c.tag_raise-raised.ensures.err c.changed.ensures
