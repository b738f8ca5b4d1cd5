use Rattle.rt_holding.proofs.Sites.{refused_changes_nothing, repeat_changes_nothing, requests_keep}
use Rattle.rt_holding.proofs.laws.requests.Goals as goal

pub returns-clause-keep : goal.returns-clause-keep
returns-clause-keep c = requests_keep

pub returns-clause-refused : goal.returns-clause-refused
returns-clause-refused c = refused_changes_nothing

pub returns-clause-again : goal.returns-clause-again
returns-clause-again c = repeat_changes_nothing
