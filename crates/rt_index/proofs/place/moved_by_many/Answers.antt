use Rattle.rt_index.proofs.place.moved_by_many.Goals as goal

pub moved_with-requires-clause-words : goal.moved_with-requires-clause-words
moved_with-requires-clause-words g c = c.many_words.ensures (g.G.Ground.widget c.args.ground.now).text
