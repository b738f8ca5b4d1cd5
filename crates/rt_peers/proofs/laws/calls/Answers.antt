use Rattle.rt_peers.proofs.Calls.{answered, destroyed_kept, given_by, option_kept, peers_kept, settings_kept}
use Rattle.rt_peers.proofs.laws.calls.Goals as goal

pub returns-clause-answers : goal.returns-clause-answers
returns-clause-answers c = answered

pub returns-clause-commands : goal.returns-clause-commands
returns-clause-commands c = given_by

pub returns-clause-settings : goal.returns-clause-settings
returns-clause-settings c = settings_kept

pub returns-clause-options : goal.returns-clause-options
returns-clause-options c = option_kept

pub returns-clause-peers : goal.returns-clause-peers
returns-clause-peers c = peers_kept

pub returns-clause-destroyed : goal.returns-clause-destroyed
returns-clause-destroyed c = destroyed_kept
