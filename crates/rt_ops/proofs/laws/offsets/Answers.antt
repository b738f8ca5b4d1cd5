use Rattle.rt_ops.proofs.Offsets.{offsets_begin, one_offset_each}
use Rattle.rt_ops.proofs.laws.offsets.Goals as goal

pub returns-clause-begins : goal.returns-clause-begins
returns-clause-begins c = offsets_begin

pub returns-clause-count : goal.returns-clause-count
returns-clause-count c = one_offset_each
