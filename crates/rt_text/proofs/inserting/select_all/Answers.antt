use Rattle.rt_text.proofs.inserting.select_all.Goals as goal

pub returns : goal.returns
returns c = record { selection = c.add.ensures; others = c.select_between.ensures }
