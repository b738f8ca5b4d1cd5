use Rattle.std.proofs.Common.{arith}
use Rattle.rt_oplog.proofs.InRuns.{few_places}
use Rattle.rt_oplog.proofs.block.Block.put.Goals as goal

pub overflow_add-self : goal.overflow_add-self
overflow_add-self c =
    let block = c.args.self.now in
    omega (arith, few_places block.runs.items, block.counted, block.few, block.runs.ok.0)
