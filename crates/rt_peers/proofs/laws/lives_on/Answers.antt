use Rattle.rt_peers.proofs.Events.{events_on}
use Rattle.rt_peers.proofs.laws.lives_on.Goals as goal

pub returns : goal.returns
returns c = record { events = events_on }
