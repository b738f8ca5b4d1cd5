use Rattle.std.proofs.Common.{◌≡◌, drop, length, map, take}
use Rattle.rt_plans.specs.Removals.{is_covered}
use Rattle.rt_text.specs.Widgets.{widget_without}
use Rattle.rt_text.specs.Owned.{widget_value}
use Rattle.rt_text.proofs.others.leave_each.Given as goal

abbrev pub invariant-loop-i : goal.invariant-loop-i
invariant-loop-i l = record {
  done : map widget_value (take l.i l.others) ≡ map (widget_without (is_covered l.removed)) (map widget_value (take l.i l.fn.others));
  rest : drop l.i l.others ≡ drop l.i l.fn.others;
  len : length l.others ≡ length l.fn.others;
}
