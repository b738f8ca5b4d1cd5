use Rattle.rt_index.proofs.values.all_moved.Goals as goal

pub moved_with-requires-clause-words : goal.moved_with-requires-clause-words
moved_with-requires-clause-words g c = c.few_words.ensures (g.G.Ground.widget c.args.ground.now).text
