use Rattle.std.proofs.Common.{◌≡◌, ◌∙◌, Global, List, Vec, true, ap, sym}
use Rattle.std.specs.List.{list_all}
use Rattle.std.proofs.lemmas.List.Sorted.{list_any-IsPermutation}
use Rattle.rt_stamps.specs.declared.stamp.Span.{Span}
use Rattle.rt_store.specs.Cells.{is_in_span}
use Rattle.rt_store.specs.Spans.{each_next, is_clear_of, is_in_spans, is_span}
use Rattle.rt_plans.specs.Removals.{is_covered, stamps_at}
use Rattle.rt_plans.proofs.ClearSpans.{all_moved, spans_from}
use Rattle.rt_plans.proofs.DistinctLaws.{distinct_at}
use Rattle.rt_plans.proofs.WithinLaws.{both_if_ok}
use Rattle.rt_plans.proofs.runs.spans_in.Goals as goal

pub joined-requires-clause-forward : goal.joined-requires-clause-forward
joined-requires-clause-forward g c =
    ap (list_all is_span) c.deref.ensures.value ∙ all_moved is_span c.in_ok-spans.spans.items c.sort.new.spans.items c.sort.ensures.same c.in_ok-spans.ensures.forward

pub returns-clause-ok : goal.returns-clause-ok
returns-clause-ok g c =
    let cells = g.S.TextStore.list c.args.store.now in
    let places = is_covered c.args.ranges.now in
    let stamps = stamps_at places 0 cells in
    both_if_ok c.joined.result _ (λ (spans : Vec Span Global). (list_all is_span spans.items ≡ true) × (each_next is_clear_of spans.items ≡ true)) _
    (λ joined same both.
    spans_from joined.items stamps (distinct_at places 0 cells c.requires.distinct) both.0 both.1
    (λ stamp. same stamp ∙ ap (λ (l : List Span). is_in_spans l stamp) c.deref.ensures.value
    ∙ sym (list_any-IsPermutation (λ span. is_in_span span stamp) c.in_ok-spans.spans.items c.sort.new.spans.items c.sort.ensures.same) ∙ c.in_ok-spans.ensures.named stamp))
    c.joined.ensures.same
    (both_if_ok c.joined.result _ _ _ (λ joined f h. (f, h)) c.joined.ensures.forward c.joined.ensures.clear)
