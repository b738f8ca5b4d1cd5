use Rattle.std.proofs.Common.{◌≡◌, ◌-◌, arith, rules, refl, vec_len}
use Rattle.rt_nodes.proofs.Rows.{AreRows-push, AreEmpty-pop, map-push}
use Rattle.rt_nodes.proofs.memory.NodeMem.make.Goals as goal

pub invariant_of-self : goal.invariant_of-self
invariant_of-self g c =
    let h = c.self.invariant in
    let last = AreEmpty-pop g.row.CAP c.take_last-row.new.self.items c.take_last-row.result (rw c.take_last-row.ensures.items at h.spare_empty) in
    record {
      same = search (rules, h.same);
      heads_room = search (rules, h.heads_room);
      rows_room = search (rules, h.rows_room);
      named = search (rules, h.named);
      rows_fit = rw c.push_reserved-2.ensures.items (AreRows-push g.row.CAP c.self.inside.rows.items c.take_last-row.result h.rows_fit (rw last.1 (record { room = refl; fits = omega arith })));
      spare_empty = last.0;
    }

pub returns-clause-node : goal.returns-clause-node
returns-clause-node g c =
    let h = c.self.invariant in
    let last = AreEmpty-pop g.row.CAP c.take_last-row.new.self.items c.take_last-row.result (rw c.take_last-row.ensures.items at h.spare_empty) in
    let less : vec_len c.take_last-row.new.self ≡ vec_len c.self.inside.spare - 1 = omega (arith, c.take_last-row.ensures.len) in
    rw (c.push_reserved.ensures.items, c.push_reserved-2.ensures.items, map-push, last.1, less, ← c.self.view_is)
