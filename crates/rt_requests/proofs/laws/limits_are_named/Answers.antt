use Rattle.rt_requests.proofs.WithoutLimits.{none_named}
use Rattle.rt_requests.proofs.laws.limits_are_named.Goals as goal

pub returns : goal.returns
returns c = none_named
