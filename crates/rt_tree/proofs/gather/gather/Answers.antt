use Rattle.std.proofs.Common.{arith, subst, take_all}
use Rattle.rt_nodes.specs.Nodes.{entries}
use Rattle.rt_tree.specs.Shape.{all_below, level_of}
use Rattle.rt_tree.specs.Summaries.{IsSummary, shown_states}
use Rattle.rt_tree.proofs.gather.gather.Goals as goal

pub loop-i-init : goal.loop-i-init
loop-i-init c = record { so_far = c.clear.ensures.empty c.args.states.now; capacity = c.clear.ensures.capacity }

pub returns-clause-gathered : goal.returns-clause-gathered
returns-clause-gathered c =
    let m = c.args.mem.now in
    let k = level_of m c.args.node.index in
    let es = entries m c.args.node.index in
    subst (λ l. IsSummary c.args.states.now (shown_states (all_below m k l)) c.loop-i.summary) (take_all c.loop-i.i es (omega (arith, c.loop-i-test.false, c.len-i-end.ensures.value))) c.loop-i.invariant.so_far
