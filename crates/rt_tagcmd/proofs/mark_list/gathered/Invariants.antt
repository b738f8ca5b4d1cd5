use Rattle.std.proofs.Common.{◌≡◌, ◌≤◌, length, map}
use Rattle.rt_marks.specs.Marks.{in_order}
use Rattle.rt_marks.specs.Seen.{spotted}
use Rattle.rt_tagcmd.specs.MarkLists.{marks_from}
use Rattle.rt_tagcmd.proofs.Walking.{passed_seen}
use Rattle.rt_tagcmd.proofs.mark_list.gathered.Given as goal

abbrev pub invariant-loop-mark : goal.invariant-loop-mark
invariant-loop-mark l = record {
  within : l.left ≤ length l.marks;
  same : in_order (map spotted l.spots.items) ≡ marks_from l.from l.behind (passed_seen l.stretch l.left l.marks);
}

abbrev pub decreases-loop-mark : goal.decreases-loop-mark
decreases-loop-mark l = l.left
