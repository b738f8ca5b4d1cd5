use Rattle.std.proofs.Common.{◌≡◌, ◌≤◌, drop, length}
use Rattle.rt_undo.specs.Groups.{numbers_of}
use Rattle.rt_undo.specs.Undo.{rest_after}
use Rattle.rt_undo.proofs.flag.place_after.Given as goal

abbrev pub invariant-loop-action : goal.invariant-loop-action
invariant-loop-action l =
    record {
      within : l.after ≤ length l.kept;
      rest : rest_after (numbers_of (drop l.action-index l.actions)) (drop l.after l.kept) ≡ rest_after (numbers_of l.actions) (drop l.place l.kept);
    }
