use Rattle.std.proofs.Common.{rules}
use Rattle.std.proofs.lemmas.List.Sorted.{IsPartitionPoint-from_clause}
use Rattle.rt_tags.specs.ManyCounts.{is_tag_before}
use Rattle.rt_tags.proofs.Counts.{parted}
use Rattle.rt_tags.proofs.Found.{prefix_is}
use Rattle.rt_tags.proofs.toggles.tags_below.Goals as goal

pub returns-clause-place : goal.returns-clause-place
returns-clause-place c =
    let test = is_tag_before c.args.tag in
    prefix_is test c.args.counts.now c.partition_point.result c.partition_point.ensures.bound
    (IsPartitionPoint-from_clause test c.args.counts.now c.partition_point.result c.partition_point.ensures.partitioned (parted c.args.tag 0 c.args.counts.now c.requires) (λ a r f h. search rules))
