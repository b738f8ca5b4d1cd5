use Rattle.rt_text.proofs.inserting.insert_all.Goals as goal

pub returns : goal.returns
returns c = record { marks = c.inserted.ensures; own = c.inserted-2.ensures; others = c.insert_each.ensures }
