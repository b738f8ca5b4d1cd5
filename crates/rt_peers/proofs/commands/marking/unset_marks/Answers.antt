use Rattle.std.proofs.Common.{refl}
use Rattle.rt_tagcmd.specs.MarkCommands.{mark_unset}
use Rattle.rt_peers.proofs.Steps.{changed_exactly}
use Rattle.rt_peers.proofs.TakesNone.{changed_only}
use Rattle.rt_peers.proofs.commands.marking.unset_marks.Goals as goal

pub returns-clause-answers : goal.returns-clause-answers
returns-clause-answers c =
    changed_exactly c.args.view.now _ _ _ _ c.mark_unset-unset.result c.changed.result refl (λ i. mark_unset c.args.view.now (c.all.ensures i))
    c.mark_unset-unset.ensures.ok c.mark_unset-unset.ensures.err c.mark_unset-unset.ensures.unchanged c.changed.ensures

pub returns-clause-err : goal.returns-clause-err
returns-clause-err c =
    changed_only _ _ c.mark_unset-unset.result c.changed.result (λ i. mark_unset c.args.view.now (c.all.ensures i)) c.mark_unset-unset.ensures.err c.changed.ensures
