use Rattle.std.proofs.Common.{◌≡◌, ◌+◌, ◌<◌, ◌^◌, drop, length}
use Rattle.rt_undo.specs.Actions.{removed_in}
use Rattle.rt_recording.proofs.counting.with_removed.Given as goal

abbrev pub invariant-loop-part : goal.invariant-loop-part
invariant-loop-part l = record {
  few : l.all < 2 ^ 32;
  all : l.all + length (removed_in (drop l.part-index l.removed)) ≡ l.fn.count + length (removed_in l.removed);
}
