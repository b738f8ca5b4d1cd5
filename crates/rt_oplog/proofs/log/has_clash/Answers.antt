use Rattle.rt_rows.specs.Places.{op_at}
use Rattle.std.proofs.Common.{◌≡◌, ◌≤◌, ◌<◌, ap, sym, ◌∙◌, length, arith, None}
use Rattle.std.specs.Prelude.{slice_get}
use Rattle.std.specs.List.{list_any}
use Rattle.rt_oplog.specs.Ends.{end_in}
use Rattle.rt_ops.specs.Operations.{stamp_of}
use Rattle.rt_oplog.specs.Logs.{clash, known_end}
use Rattle.rt_oplog.specs.Kept.{newest_first, leading, is_earlier}
use Rattle.rt_oplog.proofs.Sets.{none_from}
use Rattle.rt_oplog.proofs.Joins.{free_past}
use Rattle.rt_oplog.proofs.Places.{any_seen, leading_le}
use Rattle.rt_oplog.proofs.Kept.{clash_newest}
use Rattle.rt_oplog.proofs.InBlocks.{none_past}
use Rattle.rt_oplog.proofs.log.has_clash.Goals as goal

pub returns-then-prev-get : goal.returns-then-prev-get
returns-then-prev-get c =
    let op = c.args.op.now in
    let set = newest_first c.args.ops.now.rows c.args.order.now.items in
    let known = c.requires.kept.known op.site in
    let past : known_end set op.site ≤ op.prev = omega (arith, known, ap (end_in c.args.ends.now) c.site.ensures, c.get.ensures, c.if-prev-get.true, c.prev.ensures) in
    sym (none_from (clash op) set (free_past set op c.requires.sound past))

pub returns-in-None : goal.returns-in-None
returns-in-None c =
    let op = c.args.op.now in
    let ops = c.args.ops.now.rows in
    let order = c.args.order.now.items in
    let ends = c.args.ends.now in
    let at = leading (is_earlier ops (stamp_of op)) order in
    let find = rw c.stamp.ensures at c.find.ensures in
    let told : slice_get order at ≡ None = cc (find, c.in-None.is) in
    let all : leading (is_earlier ops (stamp_of op)) order ≡ length order = omega (arith, none_past order at told, leading_le (is_earlier ops (stamp_of op)) order) in
    let below : op.prev < end_in ends op.site = omega (arith, ap (end_in ends) c.site.ensures, c.get.ensures, c.if-prev-get.false, c.prev.ensures) in
    sym (clash_newest ops order ends op c.requires.kept all below)

pub returns-in-Some : goal.returns-in-Some
returns-in-Some c =
    let ops = c.args.ops.now.rows in
    let op = c.args.op.now in
    c.any_clash_in.ensures ∙ ap (λ xs. list_any (λ place. clash op (op_at ops place)) xs) c.blocks-in-Some.ensures ∙ sym (any_seen (clash op) ops c.args.order.now.items)
