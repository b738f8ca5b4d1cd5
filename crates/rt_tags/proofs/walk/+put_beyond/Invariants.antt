use Rattle.rt_tags.proofs.walk.+put_beyond.Given as goal

abbrev pub decreases-put_beyond : goal.decreases-put_beyond
decreases-put_beyond l = l.parts.here
