use Rattle.std.proofs.Common.{◌≡◌, ◌≤◌, All, true, length, map, take}
use Rattle.rt_plans.specs.Selected.{room_in}
use Rattle.rt_text.specs.Owned.{widget_value, selects_both}
use Rattle.rt_text.proofs.others.reserve_between.Given as goal

abbrev pub invariant-loop-i : goal.invariant-loop-i
invariant-loop-i l = record {
  same : map widget_value l.others ≡ map widget_value l.fn.others;
  room : All (λ other. selects_both l.left l.right other ≡ true → l.more ≤ room_in other.selection) (take l.i l.others);
  len : length l.others ≡ length l.fn.others;
}
