use Rattle.rt_ops.proofs.Told.{told_in_file, known_told, reads_bounded}
use Rattle.rt_ops.proofs.laws.readings.Goals as goal

pub returns-clause-told : goal.returns-clause-told
returns-clause-told c = told_in_file

pub returns-clause-known : goal.returns-clause-known
returns-clause-known c = known_told

pub returns-clause-reads : goal.returns-clause-reads
returns-clause-reads c = reads_bounded
