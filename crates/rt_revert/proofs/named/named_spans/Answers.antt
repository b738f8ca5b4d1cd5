use Rattle.std.proofs.Common.{◌∙◌}
use Rattle.rt_revert.proofs.NamedSpans.{group_end, group_next}
use Rattle.rt_revert.proofs.named.named_spans.Goals as goal

pub loop-action-preserved : goal.loop-action-preserved
loop-action-preserved c =
    group_next c.loop-action.spans.items c.push_named.new.spans.items c.args.group.now c.loop-action.action-index c.action-item.result c.loop-action-test.true c.action-item.is c.in_ok-push_named.ensures.ok
    ∙ c.loop-action.invariant

pub returns-clause-ok : goal.returns-clause-ok
returns-clause-ok c = group_end c.loop-action.spans.items c.args.group.now c.loop-action.action-index c.loop-action-test.false ∙ c.loop-action.invariant
