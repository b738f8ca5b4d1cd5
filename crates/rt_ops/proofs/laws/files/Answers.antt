use Rattle.rt_ops.proofs.Unique.{one_file, spelled_is_read, read_is_spelled, one_reading}
use Rattle.rt_ops.proofs.laws.files.Goals as goal

pub returns-clause-one : goal.returns-clause-one
returns-clause-one c = one_file

pub returns-clause-written : goal.returns-clause-written
returns-clause-written c = λ version ops are. spelled_is_read ops are

pub returns-clause-read : goal.returns-clause-read
returns-clause-read c = read_is_spelled

pub returns-clause-once : goal.returns-clause-once
returns-clause-once c = one_reading
