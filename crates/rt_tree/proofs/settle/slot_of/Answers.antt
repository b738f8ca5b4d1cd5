use Rattle.std.proofs.Common.{arith, sym, ◌∙◌}
use Rattle.rt_tree.proofs.Raise.{count-more, not_of}
use Rattle.rt_tree.proofs.settle.slot_of.Goals as goal

pub loop-i-preserved : goal.loop-i-preserved
loop-i-preserved c =
    count-more c.args.mem.now c.args.parent.index c.args.id.index c.loop-i.i c.entry-in-loop-i.result.now (omega (arith, c.len-all.ensures.value)) c.entry-in-loop-i.ensures c.loop-i.invariant
    (not_of c.args.id.index c.entry-in-loop-i.result.now (sym c.is_node-in-loop-i.ensures ∙ c.if-is_node-2.false))
