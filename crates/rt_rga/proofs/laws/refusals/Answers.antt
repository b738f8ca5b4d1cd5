use Rattle.rt_rga.proofs.Accepting.{conflict_answer, repeat_is}
use Rattle.rt_rga.proofs.Later.{bad_target_stays, conflict_stays}
use Rattle.rt_rga.proofs.laws.refusals.Goals as goal

pub returns-clause-repeat : goal.returns-clause-repeat
returns-clause-repeat c = repeat_is

pub returns-clause-conflict : goal.returns-clause-conflict
returns-clause-conflict c = conflict_answer

pub returns-clause-conflict_stays : goal.returns-clause-conflict_stays
returns-clause-conflict_stays c = conflict_stays

pub returns-clause-target_stays : goal.returns-clause-target_stays
returns-clause-target_stays c = bad_target_stays
