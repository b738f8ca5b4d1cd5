use Rattle.std.proofs.Common.{◌∙◌, ap, arith}
use Rattle.std.proofs.lemmas.Grind.{common_steps}
use Rattle.std.proofs.lemmas.List.{take_all}
use Rattle.std.proofs.lemmas.Result.{err_from_is_err_and}
use Rattle.rt_oplog.specs.Blocks.{places_in_blocks}
use Rattle.rt_oplog.proofs.blocks.flat.Goals as goal

pub returns-in_err-places : goal.returns-in_err-places
returns-in_err-places c =
    let (y, is, gives) = err_from_is_err_and c.from_residual.result c.from_residual.ensures.1 in
    rw is tt

pub returns-in_err-push_runs : goal.returns-in_err-push_runs
returns-in_err-push_runs c =
    let (y, is, gives) = err_from_is_err_and c.from_residual-in_err-push_runs.result c.from_residual-in_err-push_runs.ensures.1 in
    rw is tt

pub loop-block-preserved : goal.loop-block-preserved
loop-block-preserved c = grind (arith, common_steps)

pub returns : goal.returns
returns c = c.loop-block.invariant ∙ ap places_in_blocks (take_all c.loop-block.block-index c.args.blocks.now c.loop-block-test.false)
