use Rattle.std.proofs.Common.{arith}
use Rattle.rt_index.specs.declared.words.TheConstants.{READ_CHARACTERS}
use Rattle.rt_index.proofs.Kept.{word_end_within}
use Rattle.rt_index.proofs.KeptWords.{found_passing, near_end}
use Rattle.rt_index.proofs.words.word_end.Goals as goal

pub returns-then-found-lt-READ_CHARACTERS-clause-value : goal.returns-then-found-lt-READ_CHARACTERS-clause-value
returns-then-found-lt-READ_CHARACTERS-clause-value g c =
    let text = (g.G.Ground.widget c.args.ground.now).text in
    near_end text READ_CHARACTERS c.args.place c.run_after-found.result
    (found_passing text c.args.place c.char_at.result c.is_word_character.result c.char_at.ensures c.is_word_character.ensures c.if-not-is_word_character.false)
    c.run_after-found.ensures.value c.if-found-lt-READ_CHARACTERS.true

pub returns-clause-within : goal.returns-clause-within
returns-clause-within g c =
    omega (arith, c.word_at.ensures.word.end, word_end_within (g.G.Ground.widget c.args.ground.now).text c.args.place c.requires.place)
