use Rattle.std.proofs.Common.{◌≡◌, [], ◌∷◌, drop, length, map, take}
use Rattle.rt_plans.specs.Selections.{unselected}
use Rattle.rt_text.specs.Owned.{widget_value}
use Rattle.rt_text.specs.Widgets.{reselected}
use Rattle.rt_text.proofs.others.remove_from_each.Given as goal

abbrev pub invariant-loop-i : goal.invariant-loop-i
invariant-loop-i l = record {
  done : map widget_value (take l.i l.others) ≡ map (reselected (unselected (l.stamp ∷ []))) (map widget_value (take l.i l.fn.others));
  rest : drop l.i l.others ≡ drop l.i l.fn.others;
  len : length l.others ≡ length l.fn.others;
}
