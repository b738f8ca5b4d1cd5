use Rattle.rt_store.proofs.Least.{greatest, least, no_next, no_previous}
use Rattle.rt_store.proofs.laws.nearest_places.Goals as goal

pub returns-clause-next : goal.returns-clause-next
returns-clause-next c s test characters place found = least test characters place found

pub returns-clause-no_next : goal.returns-clause-no_next
returns-clause-no_next c s test characters place k = no_next test characters place k

pub returns-clause-previous : goal.returns-clause-previous
returns-clause-previous c s test characters place found = greatest test characters place found

pub returns-clause-no_previous : goal.returns-clause-no_previous
returns-clause-no_previous c s test characters place k = no_previous test characters place k
