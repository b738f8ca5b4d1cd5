use Rattle.std.proofs.Common.{◌≡◌, ◌+◌, ◌≤◌, drop, length}
use Rattle.rt_plans.specs.Selected.{selected_stamps, room_in}
use Rattle.rt_plans.specs.Selections.{with_stamps}
use Rattle.rt_plans.proofs.selection.Selection.add.Given as goal

abbrev pub invariant-loop-stamp : goal.invariant-loop-stamp
invariant-loop-stamp l = record {
  stamps : with_stamps (drop l.stamp-index l.stamps) (selected_stamps l.self) ≡ with_stamps l.stamps (selected_stamps l.fn.self);
  room : length l.stamps ≤ room_in l.self + l.stamp-index;
}
