use Rattle.std.proofs.Common.{◌≡◌, ◌+◌, ◌<◌, ◌^◌, drop}
use Rattle.rt_undo.specs.Actions.{group_of}
use Rattle.rt_recording.specs.Returns.{removed_count}
use Rattle.rt_recording.proofs.counting.most_returns.Given as goal

abbrev pub invariant-loop-action : goal.invariant-loop-action
invariant-loop-action l = record {
  few : l.all < 2 ^ 32;
  all : l.all + removed_count (group_of (drop l.action-index l.group)) ≡ removed_count (group_of l.group);
}
