use Rattle.std.proofs.Common.{◌∙◌, ◌+◌, ◌-◌, ◌||◌, ap, arith, sym}
use Rattle.rt_ops.specs.Operations.{stamps_from}
use Rattle.rt_plans.specs.Removals.{is_covered}
use Rattle.rt_revert.specs.Planning.{range_at, ranges_of_visible, visible_place}
use Rattle.rt_revert.proofs.SpansCovered.{covered_all, covered_step, from_more, from_none}
use Rattle.rt_revert.proofs.work.push_places.Goals as goal

pub loop-count-preserved : goal.loop-count-preserved
loop-count-preserved g c at =
    let cells = g.S.TextStore.list c.args.store.now in
    let span = c.args.span in
    let count = c.loop-count.count in
    let old = c.loop-count.ranges.items in
    let here = range_at (visible_place cells (record { count = count; site = span.site })) in
    let rest = ranges_of_visible cells (stamps_from span.site (count + 1) (span.last + 1 - (count + 1))) in
    covered_step old c.push_visible.new.ranges.items here rest at (c.in_ok-push_visible.ensures.ok at)
    ∙ ap (λ l. is_covered old at || is_covered (ranges_of_visible cells l) at) (sym (from_more span.site count span.last (omega arith)))
    ∙ c.loop-count.invariant at

pub returns-clause-ok : goal.returns-clause-ok
returns-clause-ok g c at =
    let cells = g.S.TextStore.list c.args.store.now in
    let span = c.args.span in
    let count = c.loop-count.count in
    let ranges = c.loop-count.ranges.items in
    sym (covered_all ranges at)
    ∙ ap (λ l. is_covered ranges at || is_covered (ranges_of_visible cells l) at) (sym (from_none span.site count span.last (omega arith)))
    ∙ c.loop-count.invariant at
