use Rattle.rt_tags.proofs.nodes.+put.Given as goal

abbrev pub decreases-put : goal.decreases-put
decreases-put l = l.levels
