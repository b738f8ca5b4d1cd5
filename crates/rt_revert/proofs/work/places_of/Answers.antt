use Rattle.std.proofs.Common.{◌∙◌, ◌+◌, ◌||◌, ap, drop, sym}
use Rattle.rt_ops.specs.Operations.{stamps_in}
use Rattle.rt_plans.specs.Removals.{is_covered}
use Rattle.rt_revert.specs.Planning.{ranges_of_visible}
use Rattle.rt_revert.proofs.Rest.{none_left}
use Rattle.rt_revert.proofs.SpansCovered.{covered_all, covered_step, ranges_append, spans_more}
use Rattle.rt_revert.proofs.work.places_of.Goals as goal

pub loop-span-preserved : goal.loop-span-preserved
loop-span-preserved g c at =
    let cells = g.S.TextStore.list c.args.store.now in
    let spans = c.args.spans.now in
    let i = c.loop-span.span-index in
    let old = c.loop-span.ranges.items in
    let rest = ranges_of_visible cells (stamps_in (drop (i + 1) spans)) in
    covered_step old c.push_places.new.ranges.items _ rest at (c.in_ok-push_places.ensures.ok at)
    ∙ ap (λ l. is_covered old at || is_covered l at)
    (sym (ap (ranges_of_visible cells) (spans_more spans i _ c.loop-span-test.true) ∙ ranges_append cells _ (stamps_in (drop (i + 1) spans))))
    ∙ c.loop-span.invariant at

pub returns-clause-ok : goal.returns-clause-ok
returns-clause-ok g c at =
    let cells = g.S.TextStore.list c.args.store.now in
    let ranges = c.loop-span.ranges.items in
    sym (covered_all ranges at)
    ∙ ap (λ l. is_covered ranges at || is_covered (ranges_of_visible cells (stamps_in l)) at) (sym (none_left c.args.spans.now c.loop-span.span-index c.loop-span-test.false))
    ∙ c.loop-span.invariant at
