use Rattle.std.proofs.Common.{◌≡◌, ◌+◌, ◌<◌, ◌∙◌, length, get_or, arith, ap, sym}
use Rattle.std.proofs.lemmas.Option.{get_or_from_slice_get}
use Rattle.rt_search.proofs.Lines.{line_next, line_same, start_next, start_same}
use Rattle.rt_search.proofs.walk.Walk.step.Goals as goal

pub overflow_add-self-then-character-eq10 : goal.overflow_add-self-then-character-eq10
overflow_add-self-then-character-eq10 g c = omega (arith, c.requires.stands.few)

pub returns-then-character-eq10-clause-stands : goal.returns-then-character-eq10-clause-stands
returns-then-character-eq10-clause-stands g c =
    let text = c.args.text.now in
    let p = c.args.self.now.place in
    let here : get_or text p 0 ≡ c.at-character.result = get_or_from_slice_get text p c.at-character.result 0 c.at-character.ensures.value in
    let inside : p < length text = omega arith in
    let line = line_next text p c.at-character.result inside here c.if-character-eq10.true in
    record {
      within = omega arith;
      line = omega (arith, line, c.requires.stands.line);
      start = sym (start_next text p c.at-character.result inside here c.if-character-eq10.true);
      few = omega (arith, c.requires.stands.few);
      before = omega arith;
      shows = c.at-character.ensures.shows;
    }

pub returns-else-character-eq10-clause-stands : goal.returns-else-character-eq10-clause-stands
returns-else-character-eq10-clause-stands g c =
    let text = c.args.text.now in
    let p = c.args.self.now.place in
    let here : get_or text p 0 ≡ c.at-character.result = get_or_from_slice_get text p c.at-character.result 0 c.at-character.ensures.value in
    let inside : p < length text = omega arith in
    let line = line_same text p c.at-character.result inside here c.if-character-eq10.false in
    record {
      within = omega arith;
      line = omega (arith, line, c.requires.stands.line);
      start = c.requires.stands.start ∙ sym (start_same text p c.at-character.result inside here c.if-character-eq10.false);
      few = omega (arith, c.requires.stands.few);
      before = omega (arith, c.requires.stands.before);
      shows = c.at-character.ensures.shows;
    }
