use Rattle.std.proofs.Common.{◌≡◌, ◌++◌, drop, map}
use Rattle.rt_ops.specs.Operations.{stamps_in}
use Rattle.rt_revert.specs.declared.plan.Return.{Return}
use Rattle.rt_revert.proofs.reverting.spans_back.Given as goal

abbrev pub invariant-loop-back : goal.invariant-loop-back
invariant-loop-back l = stamps_in l.spans.items ++ map (λ (r : Return). r.newer) (drop l.back-index l.returns) ≡ map (λ (r : Return). r.newer) l.returns
