use Rattle.rt_undo.proofs.Following.{now_ends}
use Rattle.rt_undo.proofs.renames.Renames.new.Goals as goal

pub returns-clause-now : goal.returns-clause-now
returns-clause-now c = λ stamp. now_ends c.new.result stamp (c.new.ensures.values stamp)
