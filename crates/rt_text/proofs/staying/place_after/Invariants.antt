use Rattle.std.proofs.Common.{◌≡◌, ◌≤◌, length, drop}
use Rattle.rt_marks.specs.Marks.{place_left}
use Rattle.rt_plans.specs.Removals.{is_covered}
use Rattle.rt_text.proofs.staying.place_after.Given as goal

abbrev pub invariant-loop-i : goal.invariant-loop-i
invariant-loop-i l = record {
  within : l.i ≤ length l.removed;
  after : l.after ≡ place_left (is_covered (drop l.i l.removed)) l.place;
}

abbrev pub decreases-loop-i : goal.decreases-loop-i
decreases-loop-i l = l.i
