use Rattle.std.proofs.Common.{◌≡◌, ◌<◌, length, arith, rules}
use Rattle.std.proofs.lemmas.List.{length-map}
use Rattle.rt_nodes.specs.Rows.{row_items, with_tail_moved}
use Rattle.rt_nodes.proofs.Rows.{AreRows-at, AreRows-moved, items_at, items_moved, length_moved, refilled}
use Rattle.rt_nodes.proofs.memory.NodeMem.move_tail.Goals as goal

pub move_between-requires-clause-room : goal.move_between-requires-clause-room
move_between-requires-clause-room g c =
    let rs = c.self.inside.rows.items in let a = c.args.a.index in let b = c.args.b.index in
    let asked = rw (← c.self.view_is) at c.requires.nodes in
    let lt : b < length rs = omega (arith, asked.1.1, length-map rs row_items) in
    let had = AreRows-at g.row.CAP rs b c.self.invariant.rows_fit lt in
    let room = rw (← c.self.view_is, items_at rs a, items_at rs b) at c.requires.room in
    rw (c.as_mut_slice.ensures.value, had.room) room

pub invariant_of-self : goal.invariant_of-self
invariant_of-self g c =
    let rs = c.self.inside.rows.items in let a = c.args.a.index in let b = c.args.b.index in let h = c.self.invariant in
    let asked = rw (← c.self.view_is) at c.requires.nodes in
    let lt_a : a < length rs = omega (arith, asked.0.1, length-map rs row_items) in
    let lt_b : b < length rs = omega (arith, asked.1.1, length-map rs row_items) in
    let room = rw (← c.self.view_is, items_at rs a, items_at rs b) at c.requires.room in
    let long : c.self.inside.rows.len ≡ length rs = search rules in
    record {
      same = h.same;
      heads_room = h.heads_room;
      rows_room = h.rows_room;
      named = h.named;
      rows_fit = rw (c.move_between.ensures, c.as_mut_slice.ensures.value, refilled c.self.inside.rows.len rs (with_tail_moved rs a c.args.k b) long (length_moved rs a c.args.k b)) (AreRows-moved g.row.CAP rs a c.args.k b h.rows_fit lt_a lt_b room);
      spare_empty = h.spare_empty;
    }

pub returns : goal.returns
returns g c =
    let rs = c.self.inside.rows.items in let a = c.args.a.index in let b = c.args.b.index in
    let long : c.self.inside.rows.len ≡ length rs = search rules in
    rw (← c.self.view_is, c.move_between.ensures, c.as_mut_slice.ensures.value, refilled c.self.inside.rows.len rs (with_tail_moved rs a c.args.k b) long (length_moved rs a c.args.k b), items_moved rs a c.args.k b, items_at rs a, items_at rs b)
