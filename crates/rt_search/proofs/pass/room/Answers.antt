use Rattle.std.proofs.Common.{◌≤◌, arith, refl, ◌∙◌}
use Rattle.rt_lines.specs.declared.stretch.Stretch.{Stretch}
use Rattle.rt_search.specs.Searches.{is_match, stands_at}
use Rattle.rt_search.proofs.Rooms.{last_late, test_past, test_within, with_room}
use Rattle.rt_search.proofs.pass.room.Goals as goal

pub returns-clause-matches : goal.returns-clause-matches
returns-clause-matches g c =
    let how = c.args.search in
    let pattern = c.args.pattern.now in
    let text = c.args.text.now in
    let stretch = c.args.stretch in
    let last = c.last_end-last.result in
    let room : Stretch = record { begin = stretch.begin; end = c.min.result } in
    let late : stretch.end ≤ last = last_late how.strictness stretch.end c.len.result last (omega arith) c.last_end-last.ensures.first c.last_end-last.ensures.strict in
    with_room how.direction (is_match how pattern text stretch) (stands_at how.case pattern text) stretch room refl (omega arith)
    (λ place h. test_within how pattern text stretch last place (omega arith) c.requires (λ e. c.last_end-last.ensures.first e ∙ c.len.ensures) c.last_end-last.ensures.strict (omega arith))
    (λ place h k. test_past how pattern text stretch last place k c.requires (λ e. c.last_end-last.ensures.first e ∙ c.len.ensures) c.last_end-last.ensures.strict (omega arith))
