use Rattle.std.proofs.Common.{◌≡◌, drop, map}
use Rattle.std.specs.List.{AllByRecursion}
use Rattle.rt_undo.specs.Actions.{removed_in}
use Rattle.rt_revert.specs.Plans.{RemovedAreGiven, named_removed}
use Rattle.rt_revert.specs.Portions.{HasRemoved, Portion}
use Rattle.rt_revert.specs.Progress.{IsCopy, IsSoFar, IsUnderWay, Reaches}
use Rattle.rt_revert.specs.Reverting.{Reversion, with_returns}
use Rattle.rt_revert.specs.ReversionLaws.{MayReturn}
use Rattle.rt_revert.proofs.returning.bring_all_back.Given as goal

abbrev pub invariant-loop-part : goal.invariant-loop-part
invariant-loop-part g l = record {
  copy : IsCopy l.kept (g.S.TextStore.list l.copy) l.plan.texts.count;
  agrees : g.S.TextStore.agrees l.copy l.kept;
  going : IsUnderWay l.kept l.plan;
  actions : l.plan.actions ≡ l.initial.plan.actions;
  given : RemovedAreGiven l.kept (removed_in (drop l.part-index l.removed));
  may : AllByRecursion MayReturn (map (named_removed l.kept) (removed_in (drop l.part-index l.removed)));
  so_far : (part : Portion) (r : Reversion) → HasRemoved part (removed_in l.removed) → IsSoFar l.kept l.site.number (g.S.TextStore.list l.initial.copy) l.initial.plan part r
      → Reaches l.kept l.site.number (g.S.TextStore.list l.copy) l.plan part
      (with_returns (map (named_removed l.kept) (removed_in (drop l.part-index l.removed))))
      (with_returns (map (named_removed l.kept) (removed_in l.removed)) r);
}
