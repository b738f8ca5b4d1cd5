use Rattle.std.proofs.Common.{◌≡◌, ◌∙◌, ◌+◌, ◌++◌, ◌||◌, List, Some, ap, append_assoc, append-nil, drop, subst, sym}
use Rattle.rt_store.specs.Cells.{stamps_of}
use Rattle.rt_plans.specs.declared.range.Range.{Range}
use Rattle.rt_plans.specs.Removals.{RangesFollow, is_covered, stamps_at}
use Rattle.rt_revert.specs.Planning.{range_at}
use Rattle.rt_revert.specs.Portions.{whole_ranges}
use Rattle.rt_revert.proofs.OffsetLaws.{chosen_stamps}
use Rattle.rt_revert.proofs.Rest.{next_left, none_left}
use Rattle.rt_revert.proofs.SpansCovered.{covered_all, covered_step}
use Rattle.rt_revert.proofs.offsets.whole_places.Goals as goal

pub loop-cell-init : goal.loop-cell-init
loop-cell-init g c =
    let rest = whole_ranges c.args.offsets.now (g.S.TextStore.list c.args.copy.now) (stamps_of c.deref-cell-items.result.now) in
    record {
      covered = λ at. ap (λ l. is_covered l at || is_covered rest at) c.new-ranges.ensures.items;
      order = λ h. subst (λ (l : List Range). RangesFollow 0 (l ++ rest)) (sym c.new-ranges.ensures.items) h;
    }

pub loop-cell-preserved : goal.loop-cell-preserved
loop-cell-preserved g c =
    let copy = g.S.TextStore.list c.args.copy.now in
    let offsets = c.args.offsets.now in
    let cells = c.deref-cell-items.result.now in
    let i = c.loop-cell.cell-index in
    let cell = c.cell-item.result in
    let old = c.loop-cell.ranges.items in
    let place = c.whole_place.result in
    let rest = whole_ranges offsets copy (stamps_of (drop (i + 1) cells)) in
    let next : whole_ranges offsets copy (stamps_of (drop i cells)) ≡ range_at (Some place) ++ rest =
    ap (λ l. whole_ranges offsets copy (stamps_of l)) (next_left cells i cell c.loop-cell-test.true c.cell-item.is)
    ∙ ap (λ p. range_at (Some p) ++ rest) (sym c.whole_place.ensures.place) in
    record {
      covered = λ at. covered_step old c.push_place.new.ranges.items (range_at (Some place)) rest at (c.in_ok-push_place.ensures.ok at)
          ∙ ap (λ l. is_covered old at || is_covered l at) (sym next) ∙ c.loop-cell.invariant.covered at;
      order = λ h. c.in_ok-push_place.ensures.order rest
          (subst (RangesFollow 0) (ap (λ l. old ++ l) next ∙ sym (append_assoc old (range_at (Some place)) rest)) (c.loop-cell.invariant.order h));
    }

pub returns-clause-covered : goal.returns-clause-covered
returns-clause-covered g c at =
    let copy = g.S.TextStore.list c.args.copy.now in
    let offsets = c.args.offsets.now in
    let cells = c.deref-cell-items.result.now in
    let ranges = c.loop-cell.ranges.items in
    sym (covered_all ranges at)
    ∙ ap (λ l. is_covered ranges at || is_covered (whole_ranges offsets copy (stamps_of l)) at) (sym (none_left cells c.loop-cell.cell-index c.loop-cell-test.false))
    ∙ c.loop-cell.invariant.covered at
    ∙ ap (λ l. is_covered (whole_ranges offsets copy l) at) (ap stamps_of (c.deref-cell-items.ensures.value ∙ c.in_ok-cells.ensures.ok) ∙ chosen_stamps (is_covered c.args.places.now) 0 copy)

pub returns-clause-order : goal.returns-clause-order
returns-clause-order g c h =
    let copy = g.S.TextStore.list c.args.copy.now in
    let offsets = c.args.offsets.now in
    let cells = c.deref-cell-items.result.now in
    let ranges = c.loop-cell.ranges.items in
    let stamps : stamps_of cells ≡ stamps_at (is_covered c.args.places.now) 0 copy = ap stamps_of (c.deref-cell-items.ensures.value ∙ c.in_ok-cells.ensures.ok) ∙ chosen_stamps (is_covered c.args.places.now) 0 copy in
    subst (RangesFollow 0) (ap (λ l. ranges ++ whole_ranges offsets copy (stamps_of l)) (none_left cells c.loop-cell.cell-index c.loop-cell-test.false) ∙ append-nil ranges)
    (c.loop-cell.invariant.order (subst (λ l. RangesFollow 0 (whole_ranges offsets copy l)) (sym stamps) h))
