use Rattle.std.proofs.Common.{◌<◌, length, ap, ◌∙◌, arith, add-one}
use Rattle.rt_oplog.specs.Runs.{places_in, places_of}
use Rattle.rt_oplog.proofs.InParts as parts
use Rattle.rt_oplog.proofs.runs.cut_at.Goals as goal

pub returns-clause-same : goal.returns-clause-same
returns-clause-same c =
    let items = rw add-one at c.insert_run.ensures.items in
    let l : c.args.spot.run < length c.args.runs.now.items = omega (arith, c.requires.run, c.args.runs.now.ok.0) in
    ap places_in items ∙ parts.split_part places_of c.args.runs.now.items c.args.spot.run c.index.result.now c.cut.result.0 c.cut.result.1 l c.index.ensures c.cut.ensures.places
