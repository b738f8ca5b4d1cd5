use Rattle.std.proofs.Common.{ap, sym, ◌∙◌}
use Rattle.std.specs.Prelude.{slice_get}
use Rattle.rt_search.proofs.Passing.{all_left, begins, next_place}
use Rattle.rt_search.proofs.find.first_in.Goals as goal

pub next-requires-clause-pass : goal.next-requires-clause-pass
next-requires-clause-pass g c =
    begins c.args.search c.args.pattern.now c.args.text.now c.room-room.result c.new.result c.new.ensures.start c.new.ensures.agreed (c.new.ensures.shows c.args.text.now)

pub returns : goal.returns
returns g c =
    let text = c.args.text.now in
    let pattern = c.args.pattern.now in
    let all = all_left c.args.search pattern text c.args.stretch c.room-room.result c.new.result.start c.new.ensures.start c.room-room.ensures.matches in
    let next = next_place c.args.search pattern text c.room-room.result c.new.result.start c.next.new.self.start c.in_ok-index.index c.nth.result c.in_ok-index.ensures.found c.nth.ensures.place in
    sym (ap (λ places. slice_get places 0) (all ∙ next))
