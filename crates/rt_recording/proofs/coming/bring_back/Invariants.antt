use Rattle.std.proofs.Common.{◌≡◌, ◌+◌, ◌≤◌, drop, length}
use Rattle.rt_stamps.specs.declared.stamp.Stamp.{Stamp}
use Rattle.rt_undo.specs.Renames.{is_moved}
use Rattle.rt_undo.specs.Undo.{renamed_by}
use Rattle.rt_recording.specs.Returns.{AreReturns, back_after, stamp_after}
use Rattle.rt_recording.proofs.coming.bring_back.Given as goal

abbrev pub invariant-loop-back : goal.invariant-loop-back
invariant-loop-back l = record {
  history : renamed_by (stamp_after (drop l.back-index l.returns)) l.stacks.history ≡ renamed_by (stamp_after l.returns) l.fn.stacks.history;
  moves : (s : Stamp) → back_after (drop l.back-index l.returns) (is_moved l.stacks.moves) s ≡ back_after l.returns (is_moved l.fn.stacks.moves) s;
  returns : AreReturns (is_moved l.stacks.moves) (drop l.back-index l.returns);
  room : length l.returns ≤ l.back-index + l.stacks.moves.room;
  ready : l.stacks.ready ≡ l.fn.stacks.ready;
}
