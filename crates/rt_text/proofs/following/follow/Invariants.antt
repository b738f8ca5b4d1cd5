use Rattle.std.proofs.Common.{◌≡◌, take}
use Rattle.rt_marks.specs.Marks.{marks_inserted, marks_left}
use Rattle.rt_rga.specs.Taken.{is_in_runs}
use Rattle.rt_text.proofs.following.follow.Given as goal

abbrev pub invariant-loop-run : goal.invariant-loop-run
invariant-loop-run l = l.marks ≡ marks_left (is_in_runs (take l.run-index l.run-items)) (marks_inserted l.change.place l.change.inserted l.fn.marks)
