use Rattle.std.proofs.Common.{rules, ◌∙◌}
use Rattle.std.proofs.lemmas.List.Sorted.{IsPartitionPoint-from_clause}
use Rattle.rt_oplog.specs.Runs.{places_of}
use Rattle.rt_oplog.proofs.Places.{leading_is}
use Rattle.rt_oplog.proofs.InRuns.{some_of_run}
use Rattle.rt_oplog.proofs.InParts.{last_earlier, last_leading, last_parted}
use Rattle.rt_oplog.proofs.runs.runs_before.Goals as goal

pub returns-clause-runs : goal.returns-clause-runs
returns-clause-runs c =
    let ops = c.args.ops.now.rows in
    let runs = c.args.runs.now in
    let test = last_earlier places_of ops c.args.stamp in
    leading_is test runs c.partition_point.result c.partition_point.ensures.bound
    (IsPartitionPoint-from_clause test runs c.partition_point.result c.partition_point.ensures.partitioned (last_parted places_of some_of_run ops c.args.stamp runs c.requires) (λ a r f h. search rules))
    ∙ last_leading places_of some_of_run ops c.args.stamp runs c.requires
