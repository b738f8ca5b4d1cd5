use Rattle.std.proofs.Common.{sym, subst}
use Rattle.rt_rows.specs.Places.{HasPlace}
use Rattle.std.specs.List.{AllByRecursion}
use Rattle.rt_oplog.specs.Logs.{IsLog}
use Rattle.rt_oplog.specs.Kept.{newest_first}
use Rattle.rt_oplog.specs.Runs.{places_in}
use Rattle.rt_oplog.proofs.InBlocks.{all_block, log_block}
use Rattle.rt_oplog.proofs.log.any_clash_in.Goals as goal

pub any_clash-requires-clause-within : goal.any_clash-requires-clause-within
any_clash-requires-clause-within c =
    subst (λ xs. AllByRecursion (HasPlace c.args.ops.now.rows) (places_in xs)) (sym c.deref.ensures.value)
    (all_block (HasPlace c.args.ops.now.rows) c.args.blocks.now c.loop-block.block-index c.block-item.result c.loop-block-test.true c.block-item.is c.requires.within)

pub any_clash-requires-clause-log : goal.any_clash-requires-clause-log
any_clash-requires-clause-log c =
    subst (λ xs. IsLog (newest_first c.args.ops.now.rows (places_in xs))) (sym c.deref.ensures.value)
    (log_block c.args.ops.now.rows c.args.blocks.now c.loop-block.block-index c.block-item.result c.loop-block-test.true c.block-item.is c.requires.log)
