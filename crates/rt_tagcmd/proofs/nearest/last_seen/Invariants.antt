use Rattle.std.proofs.Common.{◌≡◌, ◌≤◌, length, option_map}
use Rattle.rt_marks.specs.Marks.{comes_before, find_last}
use Rattle.rt_marks.specs.Seen.{spotted}
use Rattle.rt_tagcmd.proofs.Walking.{passed_seen}
use Rattle.rt_tagcmd.proofs.nearest.last_seen.Given as goal

abbrev pub invariant-loop-mark : goal.invariant-loop-mark
invariant-loop-mark l = record {
  within : l.left ≤ length l.marks;
  found : option_map spotted l.found ≡ find_last (λ m. comes_before m (spotted l.here)) (passed_seen l.stretch l.left l.marks);
}

abbrev pub decreases-loop-mark : goal.decreases-loop-mark
decreases-loop-mark l = l.left
