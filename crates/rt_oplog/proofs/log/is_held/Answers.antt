use Rattle.std.proofs.Common.{◌≡◌, ◌≤◌, ◌<◌, true, false, nat_lt, length, refl, arith, None}
use Rattle.std.specs.Prelude.{slice_get, Some}
use Rattle.std.proofs.lemmas.Bool.Decides.{nat_tests}
use Rattle.std.proofs.lemmas.Option.{get_or_from_slice_get, slice_get_within}
use Rattle.rt_ops.specs.Operations.{stamp_of}
use Rattle.rt_oplog.specs.Kept.{leading, is_earlier}
use Rattle.rt_oplog.proofs.Places.{found}
use Rattle.rt_oplog.proofs.InBlocks.{none_past}
use Rattle.rt_oplog.proofs.log.is_held.Goals as goal

pub returns-in-Some : goal.returns-in-Some
returns-in-Some c =
    let ops = c.args.ops.now.rows in
    let order = c.args.order.now.items in
    let op = c.args.op.now in
    let at = leading (is_earlier ops (stamp_of op)) order in
    let find = rw c.stamp.ensures at c.find.ensures in
    let told : slice_get order at ≡ Some c.in-Some.place = cc (find, c.in-Some.is) in
    let within : at < length order = slice_get_within order at c.in-Some.place told in
    let value = get_or_from_slice_get order at c.in-Some.place (record { row = 0; at = 0 }) told in
    let f = found ops op order (record { row = 0; at = 0 }) c.requires.falling in
    let t : nat_lt at (length order) ≡ true = grind (arith, nat_tests, within) in
    rw (f, t, value) c.is_at.ensures

pub returns-in-None : goal.returns-in-None
returns-in-None c =
    let ops = c.args.ops.now.rows in
    let order = c.args.order.now.items in
    let op = c.args.op.now in
    let at = leading (is_earlier ops (stamp_of op)) order in
    let find = rw c.stamp.ensures at c.find.ensures in
    let told : slice_get order at ≡ None = cc (find, c.in-None.is) in
    let past : length order ≤ at = none_past order at told in
    let f = found ops op order (record { row = 0; at = 0 }) c.requires.falling in
    let t : nat_lt at (length order) ≡ false = grind (arith, nat_tests, past) in
    rw (f, t) refl
