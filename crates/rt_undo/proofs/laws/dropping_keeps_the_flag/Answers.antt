use Rattle.rt_undo.proofs.Dropping.{later_flag, same_flag}
use Rattle.rt_undo.proofs.laws.dropping_keeps_the_flag.Goals as goal

pub returns-clause-modified : goal.returns-clause-modified
returns-clause-modified c = same_flag

pub returns-clause-later : goal.returns-clause-later
returns-clause-later c = later_flag
