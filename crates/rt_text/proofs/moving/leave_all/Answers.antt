use Rattle.rt_text.proofs.moving.leave_all.Goals as goal

pub returns : goal.returns
returns c = record { marks = c.move_back.ensures; own = c.leave.ensures; others = c.leave_each.ensures }
