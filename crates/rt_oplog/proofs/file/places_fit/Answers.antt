use Rattle.rt_rows.specs.Places.{HasPlace}
use Rattle.std.proofs.Common.{◌∙◌, ap, sym}
use Rattle.std.proofs.lemmas.List.{take_all}
use Rattle.rt_oplog.specs.Runs.{places_in, places_of}
use Rattle.rt_oplog.proofs.Fitting.{fit, part_fits, part_not}
use Rattle.rt_oplog.proofs.InParts.{all_part}
use Rattle.rt_oplog.proofs.file.places_fit.Goals as goal

pub run_fits-requires : goal.run_fits-requires
run_fits-requires c =
    all_part places_of (HasPlace c.args.ops.now.rows) c.args.runs.now c.loop-run.run-index c.run-item.result c.loop-run-test.true c.run-item.is c.requires

pub returns-then-not-run_fits : goal.returns-then-not-run_fits
returns-then-not-run_fits c =
    let ops = c.args.ops.now.rows in
    sym (part_not places_of ops c.args.runs.now c.loop-run.run-index c.run-item.result c.loop-run-test.true c.run-item.is (sym c.run_fits.ensures ∙ c.if-not-run_fits.true))

pub loop-run-preserved : goal.loop-run-preserved
loop-run-preserved c =
    let ops = c.args.ops.now.rows in
    part_fits places_of ops c.args.runs.now c.loop-run.run-index c.run-item.result c.loop-run-test.true c.run-item.is c.loop-run.invariant (sym c.run_fits.ensures ∙ c.if-not-run_fits.false)

pub returns : goal.returns
returns c =
    let ops = c.args.ops.now.rows in
    sym (ap (λ runs. fit ops (places_in runs)) (sym (take_all c.loop-run.run-index c.args.runs.now c.loop-run-test.false)) ∙ c.loop-run.invariant)
