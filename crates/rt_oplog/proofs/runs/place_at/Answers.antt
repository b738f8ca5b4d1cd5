use Rattle.std.proofs.Common.{◌<◌, length, sym, ap, subst, ◌∙◌}
use Rattle.std.specs.Prelude.{slice_get}
use Rattle.rt_oplog.specs.Runs.{places_in, places_of}
use Rattle.rt_oplog.proofs.InParts as parts
use Rattle.rt_oplog.proofs.runs.place_at.Goals as goal

pub returns : goal.returns
returns c =
    let runs = c.args.runs.now in
    let spot = c.spot_of-spot.result in
    let run = c.index-runs-spot.result in
    let there = c.spot_of-spot.ensures.inside c.requires.within in
    let within = subst (λ r. spot.within < length (places_of r)) (sym c.index-runs-spot.is) (there.1 run) in
    ap (slice_get (places_in runs)) (sym c.spot_of-spot.ensures.number)
    ∙ parts.place_at places_of runs spot.run spot.within c.place.result run there.0 c.index-runs-spot.is within (c.place.ensures c.place.result)
