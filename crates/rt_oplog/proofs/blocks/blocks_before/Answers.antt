use Rattle.std.proofs.Common.{rules, ◌∙◌}
use Rattle.std.proofs.lemmas.List.Sorted.{IsPartitionPoint-from_clause}
use Rattle.rt_oplog.proofs.Places.{leading_is}
use Rattle.rt_oplog.proofs.InBlocks.{last_earlier, last_leading, last_parted}
use Rattle.rt_oplog.proofs.blocks.blocks_before.Goals as goal

pub returns-clause-blocks : goal.returns-clause-blocks
returns-clause-blocks c =
    let ops = c.args.ops.now.rows in
    let bs = c.args.blocks.now in
    let test = last_earlier ops c.args.stamp in
    leading_is test bs c.partition_point.result c.partition_point.ensures.bound
    (IsPartitionPoint-from_clause test bs c.partition_point.result c.partition_point.ensures.partitioned (last_parted ops c.args.stamp bs c.requires) (λ a r f h. search rules))
    ∙ last_leading ops c.args.stamp bs c.requires
