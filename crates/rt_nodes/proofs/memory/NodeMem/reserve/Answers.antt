use Rattle.std.proofs.Common.{rules}
use Rattle.rt_nodes.proofs.Rows.{AreEmpty-append}
use Rattle.rt_nodes.proofs.memory.NodeMem.reserve.Goals as goal

pub invariant_of-self-2 : goal.invariant_of-self-2
invariant_of-self-2 g c =
    let h = c.self.invariant in
    record {
      same = search (rules, h.same);
      heads_room = search (rules, h.heads_room);
      rows_room = search (rules, h.rows_room);
      named = search (rules, h.named);
      rows_fit = rw c.reserve-2.ensures.items h.rows_fit;
      spare_empty = rw c.in_ok-append.ensures.items (AreEmpty-append g.row.CAP c.self.inside.spare.items c.in_ok-fresh.fresh.items h.spare_empty c.in_ok-fresh.ensures.1);
    }
