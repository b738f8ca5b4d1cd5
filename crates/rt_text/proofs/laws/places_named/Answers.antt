use Rattle.rt_text.proofs.NamedPlaces.{named_any, named_within}
use Rattle.rt_text.proofs.laws.places_named.Goals as goal

pub returns-clause-within : goal.returns-clause-within
returns-clause-within c = named_within

pub returns-clause-any : goal.returns-clause-any
returns-clause-any c = named_any
