use Rattle.std.proofs.Common.{◌≡◌, ◌+◌, ◌-◌, map}
use Rattle.std.specs.List.{AllByRecursion}
use Rattle.rt_ops.specs.Operations.{stamps_from, stamps_of_span}
use Rattle.rt_undo.specs.Actions.{removed_with}
use Rattle.rt_revert.specs.Plans.{named_removed}
use Rattle.rt_revert.specs.Portions.{HasRemoved, Portion}
use Rattle.rt_revert.specs.Progress.{IsCopy, IsSoFar, IsUnderWay, Reaches}
use Rattle.rt_revert.specs.Reverting.{Reversion, with_returns}
use Rattle.rt_revert.specs.ReversionLaws.{MayReturn}
use Rattle.rt_revert.proofs.returning.bring_span_back.Given as goal

abbrev pub invariant-loop-count : goal.invariant-loop-count
invariant-loop-count g l = record {
  copy : IsCopy l.kept (g.S.TextStore.list l.copy) l.plan.texts.count;
  agrees : g.S.TextStore.agrees l.copy l.kept;
  going : IsUnderWay l.kept l.plan;
  actions : l.plan.actions ≡ l.initial.plan.actions;
  may : AllByRecursion MayReturn (map (named_removed l.kept) (map (removed_with l.state) (stamps_from l.span.site l.count (l.span.last + 1 - l.count))));
  so_far : (portion : Portion) (r : Reversion) → HasRemoved portion (map (removed_with l.state) (stamps_of_span l.span)) → IsSoFar l.kept l.site.number (g.S.TextStore.list l.initial.copy) l.initial.plan portion r
      → Reaches l.kept l.site.number (g.S.TextStore.list l.copy) l.plan portion
      (with_returns (map (named_removed l.kept) (map (removed_with l.state) (stamps_from l.span.site l.count (l.span.last + 1 - l.count)))))
      (with_returns (map (named_removed l.kept) (map (removed_with l.state) (stamps_of_span l.span))) r);
}
