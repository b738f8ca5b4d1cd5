use Rattle.std.proofs.Common.{◌≡◌, ◌+◌, ◌-◌, ◌++◌, map}
use Rattle.rt_ops.specs.Operations.{stamps_from, stamps_of_span}
use Rattle.rt_rga.specs.Batches.{named_with}
use Rattle.rt_rga.proofs.plan.push_span.Given as goal

abbrev pub invariant-loop-count : goal.invariant-loop-count
invariant-loop-count l =
    l.named.items ++ map (named_with l.entry) (stamps_from l.span.site l.count (l.span.last + 1 - l.count))
    ≡ l.initial.named.items ++ map (named_with l.entry) (stamps_of_span l.span)
