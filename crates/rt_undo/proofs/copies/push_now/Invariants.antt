use Rattle.std.proofs.Common.{◌≡◌, ◌+◌, ◌-◌, ◌++◌, map}
use Rattle.rt_ops.specs.Operations.{stamps_from, stamps_in, stamps_of_span}
use Rattle.rt_undo.specs.Renames.{now_of}
use Rattle.rt_undo.proofs.copies.push_now.Given as goal

abbrev pub invariant-loop-count : goal.invariant-loop-count
invariant-loop-count l =
    stamps_in l.spans.items ++ map (now_of l.renames) (stamps_from l.span.site l.count (l.span.last + 1 - l.count))
    ≡ stamps_in l.initial.spans.items ++ map (now_of l.renames) (stamps_of_span l.span)
