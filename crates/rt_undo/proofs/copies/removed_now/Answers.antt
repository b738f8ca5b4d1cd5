use Rattle.std.proofs.Common.{◌∙◌, ◌++◌, ap, map}
use Rattle.rt_ops.specs.Operations.{stamps_in, stamps_of_span}
use Rattle.rt_undo.specs.Actions.{removed_in, removed_with}
use Rattle.rt_undo.specs.Renames.{now_of}
use Rattle.rt_undo.proofs.Copying.{removed_step}
use Rattle.rt_undo.proofs.copies.removed_now.Goals as goal

pub loop-part-preserved : goal.loop-part-preserved
loop-part-preserved c =
    let f = now_of c.args.renames.now in
    let part = c.part-item.result in
    let old = removed_in c.loop-part.copy.items in
    removed_step f old (removed_in c.push_removed.new.removed.items) c.args.removed.now c.loop-part.part-index part c.loop-part-test.true c.part-item.is
    (c.in_ok-push_removed.ensures.ok
    ∙ ap (λ l. old ++ map (removed_with part.state) (stamps_in l)) c.deref.ensures.value
    ∙ ap (λ l. old ++ map (removed_with part.state) l) (c.in_ok-push_now.ensures.ok ∙ ap (λ l. stamps_in l ++ map f (stamps_of_span part.span)) c.new-spans.ensures.items))
    ∙ c.loop-part.invariant
