use Rattle.std.proofs.Common.{◌≡◌, ◌≤◌, length, drop}
use Rattle.rt_plans.specs.Removals.{is_covered}
use Rattle.rt_text.specs.Owned.{widget_value}
use Rattle.rt_text.specs.Widgets.{widget_without}
use Rattle.rt_text.proofs.widget.Widget.leave.Given as goal

abbrev pub invariant-loop-i : goal.invariant-loop-i
invariant-loop-i l = record {
  within : l.i ≤ length l.removed;
  own : widget_value l.self ≡ widget_without (is_covered (drop l.i l.removed)) (widget_value l.fn.self);
}

abbrev pub decreases-loop-i : goal.decreases-loop-i
decreases-loop-i l = l.i
