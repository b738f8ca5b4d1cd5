use Rattle.std.proofs.Common.{◌≡◌, drop, length, map, take}
use Rattle.rt_text.specs.Widgets.{widget_inserted}
use Rattle.rt_text.specs.Owned.{widget_value}
use Rattle.rt_text.proofs.others.insert_each.Given as goal

abbrev pub invariant-loop-i : goal.invariant-loop-i
invariant-loop-i l = record {
  done : map widget_value (take l.i l.others) ≡ map (widget_inserted l.place l.n) (map widget_value (take l.i l.fn.others));
  rest : drop l.i l.others ≡ drop l.i l.fn.others;
  len : length l.others ≡ length l.fn.others;
}
