use Rattle.std.proofs.Common.{◌≡◌, drop, length, map, take}
use Rattle.rt_rga.specs.Taken.{is_in_runs}
use Rattle.rt_text.specs.Widgets.{widget_inserted, widget_without}
use Rattle.rt_text.specs.Owned.{widget_value}
use Rattle.rt_text.proofs.others.follow_each.Given as goal

abbrev pub invariant-loop-i : goal.invariant-loop-i
invariant-loop-i l = record {
  done : map widget_value (take l.i l.others) ≡ map (λ own. widget_without (is_in_runs l.change.removed.items) (widget_inserted l.change.place l.change.inserted own)) (map widget_value (take l.i l.fn.others));
  rest : drop l.i l.others ≡ drop l.i l.fn.others;
  len : length l.others ≡ length l.fn.others;
}
