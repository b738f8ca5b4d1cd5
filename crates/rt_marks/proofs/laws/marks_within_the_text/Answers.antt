use Rattle.rt_marks.proofs.Leaving.{within_left}
use Rattle.rt_marks.proofs.Moving.{within_gravity, within_inserted, within_removed, within_set, within_unset}
use Rattle.rt_marks.proofs.laws.marks_within_the_text.Goals as goal

pub returns-clause-after_insertion : goal.returns-clause-after_insertion
returns-clause-after_insertion c = within_inserted

pub returns-clause-after_removal : goal.returns-clause-after_removal
returns-clause-after_removal c = within_removed

pub returns-clause-after_set : goal.returns-clause-after_set
returns-clause-after_set c = within_set

pub returns-clause-after_unset : goal.returns-clause-after_unset
returns-clause-after_unset c = within_unset

pub returns-clause-after_gravity : goal.returns-clause-after_gravity
returns-clause-after_gravity c = within_gravity

pub returns-clause-after_removals : goal.returns-clause-after_removals
returns-clause-after_removals c = within_left
