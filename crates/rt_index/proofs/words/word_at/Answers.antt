use Rattle.rt_index.proofs.KeptWords.{is_word}
use Rattle.rt_index.proofs.words.word_at.Goals as goal

pub returns-clause-words : goal.returns-clause-words
returns-clause-words g c =
    let text = (g.G.Ground.widget c.args.ground.now).text in
    c.keep.ensures text c.requires.words (is_word text c.args.place c.run_start.result c.run_end.result c.requires.place c.run_start.ensures c.run_end.ensures)
