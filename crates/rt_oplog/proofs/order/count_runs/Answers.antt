use Rattle.std.proofs.Common.{◌+◌, ap, ◌∙◌, arith}
use Rattle.std.proofs.lemmas.List.{take_all}
use Rattle.rt_oplog.specs.Blocks.{runs_of}
use Rattle.rt_oplog.proofs.Filling.{runs_few, runs_front, runs_next}
use Rattle.rt_oplog.proofs.order.count_runs.Goals as goal

pub overflow_add-runs : goal.overflow_add-runs
overflow_add-runs c =
    let bs = c.args.blocks.now in
    let i = c.loop-block.block-index in
    let next = runs_next bs i c.block-item.result c.loop-block-test.true c.block-item.is in
    omega (arith, c.loop-block.invariant, next, runs_front bs (i + 1), runs_few bs, c.requires)

pub loop-block-preserved : goal.loop-block-preserved
loop-block-preserved c =
    omega (arith, c.loop-block.invariant, runs_next c.args.blocks.now c.loop-block.block-index c.block-item.result c.loop-block-test.true c.block-item.is)

pub returns-clause-runs : goal.returns-clause-runs
returns-clause-runs c = c.loop-block.invariant ∙ ap runs_of (take_all c.loop-block.block-index c.args.blocks.now c.loop-block-test.false)

pub returns-clause-few : goal.returns-clause-few
returns-clause-few c =
    let bs = c.args.blocks.now in
    omega (arith, c.loop-block.invariant, runs_front bs c.loop-block.block-index, runs_few bs, c.requires)
