use Rattle.std.proofs.Common.{◌≡◌, ◌++◌, length, map}
use Rattle.rt_marks.specs.Seen.{spotted}
use Rattle.rt_tagcmd.specs.MarkLists.{marks_from, marks_ahead}
use Rattle.rt_text.specs.Widgets.{marks_of}
use Rattle.rt_tagcmd.proofs.mark_list.one_by_one.Given as goal

abbrev pub invariant-loop-spot : goal.invariant-loop-spot
invariant-loop-spot g l = marks_from l.from l.behind (marks_of l.view) ≡ map spotted l.spots.items ++ marks_ahead l.behind (spotted l.here) (marks_of l.view)

abbrev pub decreases-loop-spot : goal.decreases-loop-spot
decreases-loop-spot g l = length (marks_ahead l.behind (spotted l.here) (marks_of l.view))
