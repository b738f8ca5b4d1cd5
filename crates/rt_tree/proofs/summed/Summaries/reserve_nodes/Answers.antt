use Rattle.std.proofs.Common.{◌∙◌, arith}
use Rattle.rt_tree.proofs.summed.Summaries.reserve_nodes.Goals as goal

pub loop-preserved : goal.loop-preserved
loop-preserved c =
    let inv = c.loop.invariant in
    record {
      memory = c.add_node.ensures.memory;
      same = λ i lt. c.add_node.ensures.same i (omega (arith, lt, inv.kept)) ∙ inv.same i lt;
      many = omega (arith, c.in_ok-add_node.ensures.ok, inv.many);
      kept = omega (arith, c.in_ok-add_node.ensures.ok, inv.kept);
      tags = c.add_node.ensures.tags ∙ inv.tags;
    }
