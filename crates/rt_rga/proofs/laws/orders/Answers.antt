use Rattle.rt_rga.proofs.Accepting.{one_list, run_history}
use Rattle.rt_rga.proofs.Bases.{new_upon_bases}
use Rattle.rt_rga.proofs.Limits.{members, whole_within}
use Rattle.rt_rga.proofs.Orders.{whole}
use Rattle.rt_rga.proofs.Rising.{rising}
use Rattle.rt_rga.proofs.laws.orders.Goals as goal

pub returns-clause-history : goal.returns-clause-history
returns-clause-history c = λ ops set h t. run_history ops t set h

pub returns-clause-members : goal.returns-clause-members
returns-clause-members c = members

pub returns-clause-in_time : goal.returns-clause-in_time
returns-clause-in_time c = whole

pub returns-clause-within : goal.returns-clause-within
returns-clause-within c = whole_within

pub returns-clause-by_stamp : goal.returns-clause-by_stamp
returns-clause-by_stamp c = rising

pub returns-clause-one_list : goal.returns-clause-one_list
returns-clause-one_list c = one_list

pub returns-clause-bases : goal.returns-clause-bases
returns-clause-bases c = new_upon_bases
