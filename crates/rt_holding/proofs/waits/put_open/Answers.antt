use Rattle.rt_holding.proofs.waits.put_open.Goals as goal

pub returns-in_err-make_room-clause-ready : goal.returns-in_err-make_room-clause-ready
returns-in_err-make_room-clause-ready g c = c.make_room.ensures.ready 1 c.requires
