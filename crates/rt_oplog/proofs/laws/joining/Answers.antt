use Rattle.rt_oplog.proofs.Joins.{commutative, associative, idempotent, joined_union, joined_conflict}
use Rattle.rt_oplog.proofs.laws.joining.Goals as goal

pub returns-clause-commutative : goal.returns-clause-commutative
returns-clause-commutative c = commutative

pub returns-clause-associative : goal.returns-clause-associative
returns-clause-associative c = associative

pub returns-clause-idempotent : goal.returns-clause-idempotent
returns-clause-idempotent c = idempotent

pub returns-clause-union : goal.returns-clause-union
returns-clause-union c = joined_union

pub returns-clause-conflict : goal.returns-clause-conflict
returns-clause-conflict c = joined_conflict
