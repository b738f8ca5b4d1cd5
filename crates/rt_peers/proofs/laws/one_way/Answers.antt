use Rattle.rt_peers.proofs.Events.{events_once}
use Rattle.rt_peers.proofs.OneWay.{commands_once, receiving_once, requests_once, receiving_finds}
use Rattle.rt_peers.proofs.laws.one_way.Goals as goal

pub returns-clause-requests : goal.returns-clause-requests
returns-clause-requests c = requests_once

pub returns-clause-commands : goal.returns-clause-commands
returns-clause-commands c = commands_once

pub returns-clause-receiving : goal.returns-clause-receiving
returns-clause-receiving c = receiving_once

pub returns-clause-events : goal.returns-clause-events
returns-clause-events c = events_once

pub returns-clause-found : goal.returns-clause-found
returns-clause-found c = receiving_finds
