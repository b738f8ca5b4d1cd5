use Rattle.std.proofs.Common.{◌≡◌, ◌≤◌, length, drop}
use Rattle.rt_marks.specs.Marks.{marks_left}
use Rattle.rt_plans.specs.Removals.{is_covered}
use Rattle.rt_text.proofs.moving.move_back.Given as goal

abbrev pub invariant-loop-i : goal.invariant-loop-i
invariant-loop-i l = record {
  within : l.i ≤ length l.removed;
  marks : l.marks ≡ marks_left (is_covered (drop l.i l.removed)) l.fn.marks;
}

abbrev pub decreases-loop-i : goal.decreases-loop-i
decreases-loop-i l = l.i
