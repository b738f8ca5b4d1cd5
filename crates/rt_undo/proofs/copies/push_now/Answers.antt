use Rattle.std.proofs.Common.{◌∙◌, ◌+◌, ◌-◌, ◌++◌, [], ◌∷◌, ap, arith, map, sym}
use Rattle.rt_ops.specs.Operations.{stamps_from, stamps_in}
use Rattle.rt_undo.specs.Renames.{now_of}
use Rattle.rt_undo.proofs.Copying.{from_step}
use Rattle.rt_undo.proofs.copies.push_now.Goals as goal

pub loop-count-preserved : goal.loop-count-preserved
loop-count-preserved c =
    let count = c.loop-count.count in
    let span = c.args.span in
    let f = now_of c.args.renames.now in
    ap (λ l. l ++ map f (stamps_from span.site (count + 1) (span.last + 1 - (count + 1)))) (c.in_ok-push_stamp.ensures.ok ∙ ap (λ s. stamps_in c.loop-count.spans.items ++ s ∷ []) c.now.ensures.now)
    ∙ sym (from_step f (stamps_in c.loop-count.spans.items) span.site count span.last (omega arith)) ∙ c.loop-count.invariant
