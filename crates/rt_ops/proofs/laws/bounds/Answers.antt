use Rattle.rt_ops.proofs.Told.{enough_reads, read_within, whole_is_read}
use Rattle.rt_ops.proofs.laws.bounds.Goals as goal

pub returns-clause-whole : goal.returns-clause-whole
returns-clause-whole c = whole_is_read

pub returns-clause-within : goal.returns-clause-within
returns-clause-within c = read_within

pub returns-clause-enough : goal.returns-clause-enough
returns-clause-enough c = enough_reads
