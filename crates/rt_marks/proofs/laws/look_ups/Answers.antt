use Rattle.rt_marks.proofs.Leaving.{named_left}
use Rattle.rt_marks.proofs.Moving.{named_inserted, named_removed}
use Rattle.rt_marks.proofs.Names.{named_set, named_without}
use Rattle.rt_marks.proofs.laws.look_ups.Goals as goal

pub returns-clause-after_set : goal.returns-clause-after_set
returns-clause-after_set c = named_set

pub returns-clause-after_unset : goal.returns-clause-after_unset
returns-clause-after_unset c = λ q name marks. named_without name q marks

pub returns-clause-after_insertion : goal.returns-clause-after_insertion
returns-clause-after_insertion c = λ q place n marks. named_inserted place n q marks

pub returns-clause-after_removal : goal.returns-clause-after_removal
returns-clause-after_removal c = λ q place n marks h. named_removed place n q marks h

pub returns-clause-after_removals : goal.returns-clause-after_removals
returns-clause-after_removals c = λ q removed marks h. named_left removed q marks h
