use Rattle.std.proofs.Common.{◌≡◌, ◌+◌, ◌-◌, ◌/◌, ◌<◌, ◌≤◌, true, false, length, get_or, sym, ap, ◌∙◌, arith}
use Rattle.rt_rows.specs.declared.rows.RowPlace.{RowPlace}
use Rattle.rt_oplog.specs.Kept.{is_earlier, leading}
use Rattle.rt_oplog.specs.Runs.{places_of}
use Rattle.rt_oplog.proofs.InRuns.{leading_past, leading_upto}
use Rattle.rt_oplog.proofs.Places.{leading_le, partitioned}
use Rattle.rt_oplog.proofs.runs.run_before.Goals as goal

pub loop-low-init : goal.loop-low-init
loop-low-init c =
    let p = is_earlier c.args.ops.now.rows c.args.stamp in
    let xs = places_of c.args.run in
    let le = leading_le p xs in
    let low : 0 ≤ leading p xs = omega arith in
    let high : leading p xs ≤ c.len-high.result = omega (arith, le, c.len-high.ensures) in
    let within : c.len-high.result ≤ length xs = omega (arith, c.len-high.ensures) in
    record { low = low; high = high; within = within }

pub loop-low-preserved-then-is_earlier : goal.loop-low-preserved-then-is_earlier
loop-low-preserved-then-is_earlier c =
    let p = is_earlier c.args.ops.now.rows c.args.stamp in
    let xs = places_of c.args.run in
    let d : RowPlace = record { row = 0; at = 0 } in
    let middle = c.loop-low.low + (c.loop-low.high - c.loop-low.low) / 2 in
    let l : middle < length xs = omega (arith, c.loop-low.invariant.within, c.loop-low-test.true) in
    let here : p (get_or xs middle d) ≡ true = ap p (sym (c.place.ensures d)) ∙ sym c.is_earlier.ensures ∙ c.if-is_earlier.true in
    let past : middle < leading p xs = leading_past p xs middle d (partitioned c.args.ops.now.rows c.args.stamp xs c.requires) l here in
    let low : middle + 1 ≤ leading p xs = omega (arith, past) in
    record { low = low; high = c.loop-low.invariant.high; within = c.loop-low.invariant.within }

pub loop-low-preserved : goal.loop-low-preserved
loop-low-preserved c =
    let p = is_earlier c.args.ops.now.rows c.args.stamp in
    let xs = places_of c.args.run in
    let d : RowPlace = record { row = 0; at = 0 } in
    let middle = c.loop-low.low + (c.loop-low.high - c.loop-low.low) / 2 in
    let l : middle < length xs = omega (arith, c.loop-low.invariant.within, c.loop-low-test.true) in
    let here : p (get_or xs middle d) ≡ false = ap p (sym (c.place.ensures d)) ∙ sym c.is_earlier.ensures ∙ c.if-is_earlier.false in
    let high : leading p xs ≤ middle = leading_upto p xs middle d l here in
    let within : middle ≤ length xs = omega (arith, l) in
    record { low = c.loop-low.invariant.low; high = high; within = within }
