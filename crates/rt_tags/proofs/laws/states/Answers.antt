use Rattle.rt_tags.proofs.Commuting.{commute, on_is_listed, on_once, one_state}
use Rattle.rt_tags.proofs.Sorted.{written_sorted}
use Rattle.rt_tags.proofs.laws.states.Goals as goal

pub returns-clause-by_name : goal.returns-clause-by_name
returns-clause-by_name c = written_sorted

pub returns-clause-known : goal.returns-clause-known
returns-clause-known c = one_state

pub returns-clause-any_order : goal.returns-clause-any_order
returns-clause-any_order c = commute

pub returns-clause-on : goal.returns-clause-on
returns-clause-on c = on_is_listed

pub returns-clause-once : goal.returns-clause-once
returns-clause-once c = on_once
