use Rattle.rt_requests.proofs.SpelledRequests.{spelled}
use Rattle.rt_requests.proofs.SpelledSettings.{line_asked}
use Rattle.rt_requests.proofs.laws.requests_are_spelled.Goals as goal

pub returns-clause-commands : goal.returns-clause-commands
returns-clause-commands c = spelled

pub returns-clause-lines : goal.returns-clause-lines
returns-clause-lines c = line_asked
