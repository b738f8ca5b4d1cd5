use Rattle.rt_rows.specs.Places.{HasPlace}
use Rattle.std.proofs.Common.{◌∙◌, ap, sym}
use Rattle.std.specs.List.{list_all}
use Rattle.std.proofs.lemmas.List.{take_all}
use Rattle.rt_ops.specs.declared.version.Version.TheVariants.{One}
use Rattle.rt_ops.specs.File.{fits}
use Rattle.rt_oplog.specs.Blocks.{places_in_blocks, places_of_block}
use Rattle.rt_oplog.specs.Runs.{places_in}
use Rattle.rt_oplog.proofs.InBlocks.{all_block}
use Rattle.rt_oplog.proofs.Fitting.{fit, part_fits, part_not}
use Rattle.rt_oplog.proofs.file.all_fit.Goals as goal

pub places_fit-requires : goal.places_fit-requires
places_fit-requires c =
    let ops = c.blocks-2.result.0.now.rows in
    rw c.deref.ensures.value
    (all_block (HasPlace ops) c.blocks-2.result.1.now c.loop-block.block-index c.block-item.result c.loop-block-test.true c.block-item.is c.blocks-2.ensures.within)

pub returns-then-not-places_fit : goal.returns-then-not-places_fit
returns-then-not-places_fit c =
    let ops = c.blocks-2.result.0.now.rows in
    let here = ap (λ runs. fit ops (places_in runs)) (sym c.deref.ensures.value) ∙ sym c.places_fit.ensures ∙ c.if-not-places_fit.true in
    sym (ap (list_all (fits One)) (sym c.blocks-2.ensures.operations)
    ∙ part_not places_of_block ops c.blocks-2.result.1.now c.loop-block.block-index c.block-item.result c.loop-block-test.true c.block-item.is here)

pub loop-block-preserved : goal.loop-block-preserved
loop-block-preserved c =
    let ops = c.blocks-2.result.0.now.rows in
    let here = ap (λ runs. fit ops (places_in runs)) (sym c.deref.ensures.value) ∙ sym c.places_fit.ensures ∙ c.if-not-places_fit.false in
    part_fits places_of_block ops c.blocks-2.result.1.now c.loop-block.block-index c.block-item.result c.loop-block-test.true c.block-item.is c.loop-block.invariant here

pub returns : goal.returns
returns c =
    let ops = c.blocks-2.result.0.now.rows in
    sym (ap (list_all (fits One)) (sym c.blocks-2.ensures.operations)
    ∙ ap (λ bs. fit ops (places_in_blocks bs)) (sym (take_all c.loop-block.block-index c.blocks-2.result.1.now c.loop-block-test.false)) ∙ c.loop-block.invariant)
