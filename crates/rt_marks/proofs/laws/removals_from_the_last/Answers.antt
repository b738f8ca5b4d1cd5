use Rattle.rt_marks.proofs.Leaving.{marks_kept, marks_then, place_then}
use Rattle.rt_marks.proofs.laws.removals_from_the_last.Goals as goal

pub returns-clause-place : goal.returns-clause-place
returns-clause-place c = place_then

pub returns-clause-marks : goal.returns-clause-marks
returns-clause-marks c = marks_then

pub returns-clause-none : goal.returns-clause-none
returns-clause-none c = marks_kept
