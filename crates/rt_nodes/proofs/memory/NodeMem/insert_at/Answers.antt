use Rattle.std.proofs.Common.{◌<◌, length, arith}
use Rattle.std.proofs.lemmas.List.Edits.{length-insert}
use Rattle.std.proofs.lemmas.List.{length-map, map-set}
use Rattle.rt_nodes.specs.Rows.{row_items, row_at}
use Rattle.rt_nodes.proofs.Rows.{AreRows-at, AreRows-set, is_at, items_at}
use Rattle.rt_nodes.proofs.memory.NodeMem.insert_at.Goals as goal

pub insert_at-requires-clause-room : goal.insert_at-requires-clause-room
insert_at-requires-clause-room g c =
    let rs = c.self.inside.rows.items in let id = c.args.id.index in
    let asked = rw (← c.self.view_is) at c.requires.node in
    let lt : id < length rs = omega (arith, asked.1, length-map rs row_items) in
    let had = AreRows-at g.row.CAP rs id c.self.invariant.rows_fit lt in
    let is = is_at rs id c.index_mut.result.now lt c.index_mut.ensures.value in
    let room = rw (← c.self.view_is, items_at rs id) at c.requires.room in
    rw (is, had.room) room

pub invariant_of-self : goal.invariant_of-self
invariant_of-self g c =
    let rs = c.self.inside.rows.items in let id = c.args.id.index in let h = c.self.invariant in
    let asked = rw (← c.self.view_is) at c.requires.node in
    let within = rw (← c.self.view_is, items_at rs id) at c.requires.within in
    let lt : id < length rs = omega (arith, asked.1, length-map rs row_items) in
    let had = AreRows-at g.row.CAP rs id h.rows_fit lt in
    let is = is_at rs id c.index_mut.result.now lt c.index_mut.ensures.value in
    let room = rw (← c.self.view_is, items_at rs id) at c.requires.room in
    let long = length-insert (row_at rs id).items c.args.i c.args.e within in
    record {
      same = h.same;
      heads_room = h.heads_room;
      rows_room = h.rows_room;
      named = h.named;
      rows_fit = AreRows-set g.row.CAP rs id c.insert_at.new.self h.rows_fit (rw (c.insert_at.ensures, is) (record { room = had.room; fits = omega (arith, long, room) }));
      spare_empty = h.spare_empty;
    }

pub returns : goal.returns
returns g c =
    let rs = c.self.inside.rows.items in let id = c.args.id.index in
    let asked = rw (← c.self.view_is) at c.requires.node in
    let lt : id < length rs = omega (arith, asked.1, length-map rs row_items) in
    let is = is_at rs id c.index_mut.result.now lt c.index_mut.ensures.value in
    rw (← c.self.view_is, map-set, items_at rs id, c.insert_at.ensures, is)
