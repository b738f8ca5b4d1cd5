use Rattle.rt_rows.specs.Places.{HasPlace, op_at}
use Rattle.std.proofs.Common.{◌<◌, ◌≤◌, ◌∙◌, ap, arith, length, subst, sym}
use Rattle.std.proofs.lemmas.List.{take_all}
use Rattle.std.proofs.lemmas.List.Elements.{All-from_recursion}
use Rattle.rt_ops.specs.Views.{operation_in}
use Rattle.rt_oplog.specs.Runs.{places_of}
use Rattle.rt_oplog.proofs.Fitting.{fit, fits_next, fits_not}
use Rattle.rt_oplog.proofs.file.run_fits.Goals as goal

pub returns-then-not-fits : goal.returns-then-not-fits
returns-then-not-fits c =
    let ops = c.args.ops.now.rows in
    let places = places_of c.args.run in
    let i = c.loop-number.number in
    let l : i < length places = omega (arith, c.loop-number-test.true, c.len-number-end.ensures) in
    let read = sym c.op_in.ensures.is ∙ ap (op_at ops) (c.place.ensures (record { row = 0; at = 0 })) in
    sym (fits_not ops places i (operation_in c.op_in.result) l read (sym c.fits.ensures ∙ c.if-not-fits.true))

pub loop-number-preserved : goal.loop-number-preserved
loop-number-preserved c =
    let ops = c.args.ops.now.rows in
    let places = places_of c.args.run in
    let i = c.loop-number.number in
    let l : i < length places = omega (arith, c.loop-number-test.true, c.len-number-end.ensures) in
    let read = sym c.op_in.ensures.is ∙ ap (op_at ops) (c.place.ensures (record { row = 0; at = 0 })) in
    fits_next ops places i (operation_in c.op_in.result) l read c.loop-number.invariant (sym c.fits.ensures ∙ c.if-not-fits.false)

pub returns : goal.returns
returns c =
    let places = places_of c.args.run in
    let l : length places ≤ c.loop-number.number = omega (arith, c.loop-number-test.false, c.len-number-end.ensures) in
    sym (ap (fit c.args.ops.now.rows) (sym (take_all c.loop-number.number places l)) ∙ c.loop-number.invariant)

pub op_in-requires : goal.op_in-requires
op_in-requires c =
    let places = places_of c.args.run in
    let i = c.loop-number.number in
    let d = c.place.result in
    let l : i < length places = omega (arith, c.loop-number-test.true, c.len-number-end.ensures) in
    subst (HasPlace c.args.ops.now.rows) (sym (c.place.ensures d)) (All-from_recursion (HasPlace c.args.ops.now.rows) places c.requires i d l)
