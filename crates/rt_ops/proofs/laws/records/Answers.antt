use Rattle.rt_ops.proofs.Fronts.{read_is_taken, taken_is_read}
use Rattle.rt_ops.proofs.InMemory.{same_taken}
use Rattle.rt_ops.proofs.laws.records.Goals as goal

pub returns-clause-begun : goal.returns-clause-begun
returns-clause-begun c = λ left ops h. (left.version, (left.rest, h.bytes, h.are))

pub returns-clause-one : goal.returns-clause-one
returns-clause-one c = same_taken

pub returns-clause-ended : goal.returns-clause-ended
returns-clause-ended c = taken_is_read

pub returns-clause-all : goal.returns-clause-all
returns-clause-all c = read_is_taken
