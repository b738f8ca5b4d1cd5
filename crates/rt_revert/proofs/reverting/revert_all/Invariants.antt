use Rattle.std.proofs.Common.{◌≤◌, length, take}
use Rattle.std.specs.Prelude.{reverse}
use Rattle.rt_undo.specs.Actions.{group_of}
use Rattle.rt_revert.specs.Plans.{named_group}
use Rattle.rt_revert.specs.Portions.{HasGroup, Portion}
use Rattle.rt_revert.specs.Progress.{IsCopy, IsSoFar, IsUnderWay, Reaches}
use Rattle.rt_revert.specs.Reverting.{Reversion, with_each_reverted}
use Rattle.rt_revert.proofs.reverting.revert_all.Given as goal

abbrev pub invariant-loop-left : goal.invariant-loop-left
invariant-loop-left g l = record {
  within : l.left ≤ length l.group;
  copy : IsCopy l.kept (g.S.TextStore.list l.copy) l.plan.texts.count;
  agrees : g.S.TextStore.agrees l.copy l.kept;
  going : IsUnderWay l.kept l.plan;
  so_far : (part : Portion) (r : Reversion) → HasGroup part (group_of l.group) → IsSoFar l.kept l.site.number (g.S.TextStore.list l.initial.copy) l.initial.plan part r
      → Reaches l.kept l.site.number (g.S.TextStore.list l.copy) l.plan part
      (with_each_reverted (reverse (named_group l.kept (group_of (take l.left l.group)))))
      (with_each_reverted (reverse (named_group l.kept (group_of l.group))) r);
}

abbrev pub decreases-loop-left : goal.decreases-loop-left
decreases-loop-left g l = l.left
