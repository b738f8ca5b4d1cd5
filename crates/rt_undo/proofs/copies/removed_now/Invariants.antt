use Rattle.std.proofs.Common.{◌≡◌, ◌++◌, drop, map}
use Rattle.rt_undo.specs.Actions.{removed_in, restamped_one}
use Rattle.rt_undo.specs.Renames.{now_of}
use Rattle.rt_undo.proofs.copies.removed_now.Given as goal

abbrev pub invariant-loop-part : goal.invariant-loop-part
invariant-loop-part l =
    removed_in l.copy.items ++ map (restamped_one (now_of l.renames)) (removed_in (drop l.part-index l.removed)) ≡ map (restamped_one (now_of l.renames)) (removed_in l.removed)
