use Rattle.rt_text.proofs.changing.revert_all.Goals as goal

pub returns : goal.returns
returns c = record { marks = c.move_for_all.ensures; own = c.revert.ensures; others = c.revert_each.ensures }
