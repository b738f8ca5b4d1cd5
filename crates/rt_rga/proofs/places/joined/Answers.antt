use Rattle.std.proofs.Common.{◌≡◌, ◌∙◌}
use Rattle.rt_rga.proofs.PlaceRuns.{all_fall, all_have, all_joined, joined_from}
use Rattle.rt_rga.proofs.places.joined.Goals as goal

pub returns-clause-same : goal.returns-clause-same
returns-clause-same c = λ end below place.
    let first = c.in-Some.first.now in
    let others = c.in-Some.others.now in
    let all : c.push-2.new.self.items ≡ joined_from first others =
    c.in_ok-push-2.ensures.items ∙ all_joined c.loop-next.run others c.loop-next.joined.items (joined_from first others) c.loop-next.next-index c.loop-next-test.false c.loop-next.invariant in
    all_have end c.args.runs.now others c.push-2.new.self.items first place c.in-Some.ensures.cases.0 c.requires.falling below all

pub returns-clause-falling : goal.returns-clause-falling
returns-clause-falling c = λ below end all_below within.
    let first = c.in-Some.first.now in
    let others = c.in-Some.others.now in
    let all : c.push-2.new.self.items ≡ joined_from first others =
    c.in_ok-push-2.ensures.items ∙ all_joined c.loop-next.run others c.loop-next.joined.items (joined_from first others) c.loop-next.next-index c.loop-next-test.false c.loop-next.invariant in
    all_fall below end c.args.runs.now others c.push-2.new.self.items first c.in-Some.ensures.cases.0 c.requires.falling all_below within all
