use Rattle.rt_rows.specs.Places.{HasPlace, op_at}
use Rattle.std.proofs.Common.{◌≡◌, ◌<◌, ◌∙◌, sym, ap, subst, length, get_or, arith}
use Rattle.std.proofs.lemmas.List.{length-map}
use Rattle.std.proofs.lemmas.Option.{get_or_from_slice_get, slice_get_read}
use Rattle.rt_ops.specs.Views.{operation_in}
use Rattle.rt_oplog.proofs.Places.{length_seen}
use Rattle.rt_oplog.proofs.Merges.{within_at, seen_reversed, at_map, ops_at}
use Rattle.rt_oplog.proofs.log.OpLog.get.Goals as goal

pub get-requires : goal.get-requires
get-requires c =
    let r = rw (← c.self.view_is) at c.requires in
    omega (arith, r, length_seen c.self.inside.ops.rows c.self.inside.order.items)

pub op_in-requires : goal.op_in-requires
op_in-requires c =
    let ops = c.self.inside.ops.rows in
    let order = c.self.inside.order.items in
    let r = rw (← c.self.view_is) at c.requires in
    let h : c.args.place < length order = omega (arith, r, length_seen ops order) in
    let read = get_or_from_slice_get order c.args.place c.get.result (record { row = 0; at = 0 }) c.get.ensures in
    subst (HasPlace ops) read (within_at (HasPlace ops) c.args.place order h c.self.invariant.within)

pub returns-clause-is : goal.returns-clause-is
returns-clause-is c =
    let ops = c.self.inside.ops.rows in
    let order = c.self.inside.order.items in
    let r = rw (← c.self.view_is) at c.requires in
    let h : c.args.place < length order = omega (arith, r, length_seen ops order) in
    let place : c.get.result ≡ get_or order c.args.place (record { row = 0; at = 0 }) = sym (get_or_from_slice_get order c.args.place c.get.result (record { row = 0; at = 0 }) c.get.ensures) in
    let fits = within_at (HasPlace ops) c.args.place order h c.self.invariant.within in
    let read : operation_in c.op_in.result ≡ op_at ops (get_or order c.args.place (record { row = 0; at = 0 })) = sym c.op_in.ensures.is ∙ ap (op_at ops) place in
    let len = length-map order (op_at ops) in
    rw (← c.self.view_is) (rw (seen_reversed ops order)
    (slice_get_read (ops_at ops order) (length (ops_at ops order)) c.args.place (operation_in c.op_in.result) (λ i. length (ops_at ops order)) (omega (arith, len)) (read ∙ sym (at_map ops order c.args.place (operation_in c.op_in.result) h))))
