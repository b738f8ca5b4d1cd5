use Rattle.std.proofs.Common.{◌≡◌, ◌∙◌, ◌+◌, ◌-◌, ◌≤◌, ◌++◌, [], ◌∷◌, List, ap, arith, drop, take, ◌||◌}
use Rattle.std.specs.List.{list_all}
use Rattle.rt_stamps.specs.declared.stamp.Span.{Span}
use Rattle.rt_store.specs.Cells.{stamps_of, visible_of}
use Rattle.rt_store.specs.Spans.{is_among, is_in_spans, is_span}
use Rattle.rt_plans.proofs.SpanRuns.{forward_more, run_and_rest, so_far}
use Rattle.rt_plans.proofs.runs.push_spans.Goals as goal

pub loop-place-preserved : goal.loop-place-preserved
loop-place-preserved g c =
    let cs = visible_of (g.S.TextStore.list c.args.store.now) in
    let place = c.loop-place.place in
    let to = c.args.range.to in
    let span = c.span_at-span.result in
    let k = span.last - span.first + 1 in
    let done = c.loop-place.spans.items in
    let items : c.push.new.self.items ≡ done ++ span ∷ [] = c.in_ok-push.ensures.items in
    let within : place + k ≤ to = omega (arith, c.span_at-span.ensures.within) in
    record {
      within = within;
      forward = ap (list_all is_span) items ∙ forward_more done span c.loop-place.invariant.forward c.span_at-span.ensures.forward;
      named = λ stamp.
          let left = is_among (stamps_of (take (to - (place + k)) (drop (place + k) cs))) stamp in
          ap (λ (l : List Span). is_in_spans l stamp || left) items
          ∙ so_far done span stamp (is_among (stamps_of (take k (drop place cs))) stamp) left (is_among (stamps_of (take (to - place) (drop place cs))) stamp) _
          (c.span_at-span.ensures.named stamp) (run_and_rest cs place to k stamp within) (c.loop-place.invariant.named stamp);
    }
