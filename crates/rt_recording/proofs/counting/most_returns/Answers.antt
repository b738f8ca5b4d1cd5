use Rattle.std.proofs.Common.{ap, arith, length}
use Rattle.rt_undo.specs.Actions.{group_of, removed_in}
use Rattle.rt_recording.specs.Returns.{removed_count}
use Rattle.rt_recording.proofs.Counted.{action_step, none_left}
use Rattle.rt_recording.proofs.counting.most_returns.Goals as goal

pub loop-action-preserved : goal.loop-action-preserved
loop-action-preserved c = record {
  few = c.in_ok-all.ensures.few;
  all = omega (
    arith,
    c.loop-action.invariant.all,
    c.in_ok-all.ensures.ok,
    ap (λ l. length (removed_in l)) c.deref.ensures.value,
    action_step c.args.group.now c.loop-action.action-index c.action-item.result c.loop-action-test.true c.action-item.is,
  );
}

pub returns-clause-ok : goal.returns-clause-ok
returns-clause-ok c =
    omega (arith, c.loop-action.invariant.all, ap (λ l. removed_count (group_of l)) (none_left c.args.group.now c.loop-action.action-index c.loop-action-test.false))
