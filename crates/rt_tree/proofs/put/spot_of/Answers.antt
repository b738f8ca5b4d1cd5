use Rattle.rt_tree.proofs.put.spot_of.Goals as goal

pub returns : goal.returns
returns c = (c.found_at.result.run, c.found_at.ensures.spot)
