use Rattle.std.proofs.Common.{◌≡◌, ◌++◌, drop, map}
use Rattle.rt_ops.specs.Operations.{stamps_in}
use Rattle.rt_undo.specs.Renames.{now_of}
use Rattle.rt_undo.proofs.copies.spans_now.Given as goal

abbrev pub invariant-loop-span : goal.invariant-loop-span
invariant-loop-span l = stamps_in l.copy.items ++ map (now_of l.renames) (stamps_in (drop l.span-index l.spans)) ≡ map (now_of l.renames) (stamps_in l.spans)
