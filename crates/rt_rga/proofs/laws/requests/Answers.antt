use Rattle.rt_rga.proofs.Requests.{all_agree, all_history, all_in, all_room}
use Rattle.rt_rga.proofs.Making.{as_requested}
use Rattle.rt_rga.proofs.laws.requests.Goals as goal

pub returns-clause-history : goal.returns-clause-history
returns-clause-history c = all_history

pub returns-clause-limit : goal.returns-clause-limit
returns-clause-limit c = all_room

pub returns-clause-kept : goal.returns-clause-kept
returns-clause-kept c = all_in

pub returns-clause-agree : goal.returns-clause-agree
returns-clause-agree c = all_agree

pub returns-clause-makes : goal.returns-clause-makes
returns-clause-makes c = as_requested
