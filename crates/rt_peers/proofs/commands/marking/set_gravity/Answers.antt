use Rattle.std.proofs.Common.{refl}
use Rattle.rt_tagcmd.specs.MarkCommands.{mark_gravity_set}
use Rattle.rt_peers.proofs.Steps.{changed_exactly}
use Rattle.rt_peers.proofs.TakesNone.{changed_only}
use Rattle.rt_peers.proofs.commands.marking.set_gravity.Goals as goal

pub returns-clause-answers : goal.returns-clause-answers
returns-clause-answers c =
    changed_exactly c.args.view.now _ _ _ _ c.set_mark_gravity-set.result c.changed.result refl (λ i. mark_gravity_set c.args.view.now (c.text.ensures i) c.args.gravity)
    c.set_mark_gravity-set.ensures.ok c.set_mark_gravity-set.ensures.err c.set_mark_gravity-set.ensures.unchanged c.changed.ensures

pub returns-clause-err : goal.returns-clause-err
returns-clause-err c =
    changed_only _ _ c.set_mark_gravity-set.result c.changed.result (λ i. mark_gravity_set c.args.view.now (c.text.ensures i) c.args.gravity) c.set_mark_gravity-set.ensures.err c.changed.ensures
