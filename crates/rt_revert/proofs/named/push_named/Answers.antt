use Rattle.std.proofs.Common.{◌∙◌, ◌+◌, ◌++◌, ap, drop, map, sym}
use Rattle.rt_ops.specs.Operations.{stamps_in}
use Rattle.rt_undo.specs.declared.action.RemovedSpan.{RemovedSpan}
use Rattle.rt_undo.specs.Actions.{Removed, removed_in}
use Rattle.std.proofs.Common.{List, ℕ}
use Rattle.rt_revert.proofs.NamedSpans.{removed_begin, removed_end, removed_next}
use Rattle.rt_revert.proofs.named.push_named.Goals as goal

pub loop-part-init : goal.loop-part-init
loop-part-init c =
    removed_begin c.args.spans.now.items c.extend_from_slice.new.self.items c.args.action.now.inserted.items c.args.action.now.removed.items
    (c.in_ok-extend_from_slice.ensures.items ∙ ap (λ l. c.args.spans.now.items ++ l) c.deref.ensures.value)

pub loop-part-preserved : goal.loop-part-preserved
loop-part-preserved c =
    let items = c.deref-part-items.result.now in
    let i = c.loop-part.part-index in
    let old = c.loop-part.spans.items in
    let new = c.push.new.self.items in
    let same = c.deref-part-items.ensures.value in
    ap (λ (l : List RemovedSpan). stamps_in new ++ map (λ (r : Removed ℕ). r.stamp) (removed_in (drop (i + 1) l))) (sym same)
    ∙ removed_next old new items i c.part-item.result c.loop-part-test.true c.part-item.is c.in_ok-push.ensures.items
    ∙ ap (λ (l : List RemovedSpan). stamps_in old ++ map (λ (r : Removed ℕ). r.stamp) (removed_in (drop i l))) same
    ∙ c.loop-part.invariant

pub returns-clause-ok : goal.returns-clause-ok
returns-clause-ok c =
    let items = c.deref-part-items.result.now in
    let i = c.loop-part.part-index in
    let old = c.loop-part.spans.items in
    removed_end old items i c.loop-part-test.false
    ∙ ap (λ (l : List RemovedSpan). stamps_in old ++ map (λ (r : Removed ℕ). r.stamp) (removed_in (drop i l))) c.deref-part-items.ensures.value
    ∙ c.loop-part.invariant
