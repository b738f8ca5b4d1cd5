use Rattle.rt_tags.proofs.walk.+is_none_on.Given as goal

abbrev pub decreases-is_none_on : goal.decreases-is_none_on
decreases-is_none_on l = l.id
