use Rattle.std.proofs.Common.{◌≡◌, ◌≤◌, ◌-◌, drop}
use Rattle.rt_plans.specs.Removals.{RangesFollow}
use Rattle.rt_text.proofs.StayingPlaces.{before_of}
use Rattle.rt_text.proofs.staying.place_before.Given as goal

abbrev pub invariant-loop-range : goal.invariant-loop-range
invariant-loop-range l = record {
  at : before_of (drop l.range-index l.removed) l.before ≡ before_of l.removed l.place;
  from : l.place ≤ l.before;
  order : RangesFollow (l.before - l.place) (drop l.range-index l.removed);
}
