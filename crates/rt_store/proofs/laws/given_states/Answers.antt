use Rattle.rt_store.proofs.GivenStates.{gone_states, put_states}
use Rattle.rt_store.proofs.Gone.{all_gone_states}
use Rattle.rt_store.proofs.laws.given_states.Goals as goal

pub returns-clause-gone : goal.returns-clause-gone
returns-clause-gone c = gone_states

pub returns-clause-all_gone : goal.returns-clause-all_gone
returns-clause-all_gone c = all_gone_states

pub returns-clause-put : goal.returns-clause-put
returns-clause-put c = put_states
