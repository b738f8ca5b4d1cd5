use Rattle.std.proofs.Common.{ap, arith, length}
use Rattle.rt_undo.specs.Actions.{removed_in}
use Rattle.rt_recording.proofs.Counted.{none_left, part_step}
use Rattle.rt_recording.proofs.counting.with_removed.Goals as goal

pub loop-part-preserved : goal.loop-part-preserved
loop-part-preserved c = record {
  few = c.in_ok-all.ensures.few;
  all = omega (arith, c.loop-part.invariant.all, c.in_ok-all.ensures.ok, part_step c.args.removed.now c.loop-part.part-index c.part-item.result c.loop-part-test.true c.part-item.is);
}

pub returns-clause-ok : goal.returns-clause-ok
returns-clause-ok c =
    omega (arith, c.loop-part.invariant.all, ap (λ l. length (removed_in l)) (none_left c.args.removed.now c.loop-part.part-index c.loop-part-test.false))
