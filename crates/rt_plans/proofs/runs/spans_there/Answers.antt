use Rattle.std.proofs.Common.{◌≡◌, ◌∙◌, ◌+◌, ◌-◌, ◌||◌, Bool, true, false, ap, arith, drop, get_or, refl, sym, take}
use Rattle.std.proofs.lemmas.List.{drop_all}
use Rattle.rt_store.specs.Cells.{stamps_of, visible_of}
use Rattle.rt_store.specs.Spans.{is_among, is_in_spans}
use Rattle.rt_plans.specs.declared.range.Range.{Range}
use Rattle.rt_plans.specs.Removals.{is_covered, stamps_at}
use Rattle.rt_plans.proofs.SpanRuns.{more_so_far}
use Rattle.rt_plans.proofs.StampLaws.{none_at, order_more, ranges_more}
use Rattle.rt_plans.proofs.runs.spans_there.Goals as goal

pub loop-range-preserved : goal.loop-range-preserved
loop-range-preserved g c =
    let cells = g.S.TextStore.list c.args.store.now in
    let ranges = c.args.ranges.now in
    let i = c.loop-range.range-index in
    let d : Range = record { from = 0; to = 0 } in
    let range = get_or ranges i d in
    record {
      forward = c.in_ok-push_spans.ensures.forward;
      named = λ stamp.
          more_so_far (is_in_spans c.loop-range.spans.items stamp) (is_in_spans c.push_spans.new.spans.items stamp) _
          (stamps_of (take (range.to - range.from) (drop range.from (visible_of cells)))) (stamps_at (is_covered (drop (i + 1) ranges)) 0 cells) (stamps_at (is_covered (drop i ranges)) 0 cells) stamp
          (c.in_ok-push_spans.ensures.named stamp) (ranges_more cells ranges i d c.loop-range-test.true c.loop-range.invariant.order) (c.loop-range.invariant.named stamp);
      order = order_more ranges i c.loop-range-test.true c.loop-range.invariant.order;
    }

pub returns-clause-named : goal.returns-clause-named
returns-clause-named g c = λ stamp.
    let cells = g.S.TextStore.list c.args.store.now in
    let held = is_in_spans c.loop-range.spans.items stamp in
    plain held ∙ ap (λ l. held || is_among l stamp) (sym (none_at 0 cells) ∙ ap (λ l. stamps_at (is_covered l) 0 cells) (sym (drop_all c.loop-range.range-index c.args.ranges.now (omega arith))))
    ∙ c.loop-range.invariant.named stamp
  where
    plain : (b : Bool) → b ≡ (b || false)
    plain true = refl
    plain false = refl
