use Rattle.std.proofs.Common.{◌≡◌, drop}
use Rattle.std.specs.List.{list_any}
use Rattle.rt_ops.specs.Operations.{stamps_of_span}
use Rattle.rt_rga.specs.Answers.{can_never_be_known}
use Rattle.rt_rga.proofs.answer.have_bad_target.Given as goal

abbrev pub invariant-loop-span : goal.invariant-loop-span
invariant-loop-span g l =
    list_any (λ span. list_any (can_never_be_known l.log.operations l.op) (stamps_of_span span)) (drop l.span-index l.spans)
    ≡ list_any (λ span. list_any (can_never_be_known l.log.operations l.op) (stamps_of_span span)) l.spans
