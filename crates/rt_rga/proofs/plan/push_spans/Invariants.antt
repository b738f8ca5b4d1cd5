use Rattle.std.proofs.Common.{◌≡◌, ◌++◌, drop, map}
use Rattle.rt_ops.specs.Operations.{stamps_in}
use Rattle.rt_rga.specs.Batches.{named_with}
use Rattle.rt_rga.proofs.plan.push_spans.Given as goal

abbrev pub invariant-loop-span : goal.invariant-loop-span
invariant-loop-span l =
    l.named.items ++ map (named_with l.entry) (stamps_in (drop l.span-index l.spans)) ≡ l.initial.named.items ++ map (named_with l.entry) (stamps_in l.spans)
