use Rattle.std.proofs.Common.{◌<◌, length, refl, arith, length-set}
use Rattle.std.proofs.lemmas.List.{length-map, map-set}
use Rattle.rt_nodes.specs.Rows.{row_items}
use Rattle.rt_nodes.proofs.Rows.{AreRows-at, AreRows-set, is_at, items_at}
use Rattle.rt_nodes.proofs.memory.NodeMem.entry_mut.Goals as goal

pub invariant_of-self-lent : goal.invariant_of-self-lent
invariant_of-self-lent g c w =
    let rs = c.self.inside.rows.items in let id = c.args.id.index in let h = c.self.invariant in
    let asked = rw (← c.self.view_is) at c.requires.node in
    let lt : id < length rs = omega (arith, asked.1, length-map rs row_items) in
    let had = AreRows-at g.row.CAP rs id h.rows_fit lt in
    let is = is_at rs id c.index_mut-row.result.now lt c.index_mut-row.ensures.value in
    let long = length-set c.index_mut-row.result.now.items c.args.i w in
    record {
      same = h.same;
      heads_room = h.heads_room;
      rows_room = h.rows_room;
      named = h.named;
      rows_fit = AreRows-set g.row.CAP rs id _ h.rows_fit (record { room = rw is had.room; fits = rw (long, is) had.fits });
      spare_empty = h.spare_empty;
    }

pub returns : goal.returns
returns g c =
    let rs = c.self.inside.rows.items in let id = c.args.id.index in
    let asked = rw (← c.self.view_is) at c.requires.node in
    let lt : id < length rs = omega (arith, asked.1, length-map rs row_items) in
    let is = is_at rs id c.index_mut-row.result.now lt c.index_mut-row.ensures.value in (
      (refl, λ w. rw (← c.self.view_is, map-set, items_at rs id, is)),
      record { writes_back = tt; value = rw (← c.self.view_is, items_at rs id, ← is) c.entry_mut.ensures.value },
    )
