use Rattle.rt_ops.proofs.Rooms.{chosen, record_first, record_more}
use Rattle.rt_ops.proofs.Unique.{spelled_is_read}
use Rattle.rt_ops.proofs.laws.versions.Goals as goal

pub returns-clause-more : goal.returns-clause-more
returns-clause-more c = record_more

pub returns-clause-first : goal.returns-clause-first
returns-clause-first c = record_first

pub returns-clause-only : goal.returns-clause-only
returns-clause-only c = λ op has. has.room

pub returns-clause-chosen : goal.returns-clause-chosen
returns-clause-chosen c = chosen

pub returns-clause-spelled : goal.returns-clause-spelled
returns-clause-spelled c = λ ops are. spelled_is_read ops (chosen ops are)
