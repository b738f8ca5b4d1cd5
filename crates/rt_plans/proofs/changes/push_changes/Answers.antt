use Rattle.std.proofs.Common.{◌∙◌, ◌≤◌, ◌++◌, All, List, ap, length, map, subst, sym}
use Rattle.std.proofs.lemmas.Result.{on_ok_weaker}
use Rattle.rt_stamps.specs.declared.limits.TheConstants.{MOST_SPANS}
use Rattle.rt_stamps.specs.declared.stamp.Span.{Span}
use Rattle.rt_ops.specs.Edits.{body_of}
use Rattle.rt_ops.specs.Operations.{Tag}
use Rattle.rt_store.specs.Cells.{visible_of}
use Rattle.rt_plans.specs.declared.range.Range.{Range}
use Rattle.rt_plans.specs.NamedSpans.{parts_of, spans_in}
use Rattle.rt_plans.specs.Removals.{RangesFollow, is_covered, stamps_at}
use Rattle.rt_plans.proofs.ChangedPlaces.{changed_within, stamps_changed}
use Rattle.rt_plans.proofs.changes.push_changes.Goals as goal

pub spans_in-requires-clause-order : goal.spans_in-requires-clause-order
spans_in-requires-clause-order g c = subst (RangesFollow 0) (sym c.deref.ensures.value) c.in_ok-changed.ensures.order

pub spans_in-requires-clause-within : goal.spans_in-requires-clause-within
spans_in-requires-clause-within g c =
    let cells = g.S.TextStore.list c.args.store.now in
    subst (All (λ (range : Range). range.to ≤ length (visible_of cells))) (sym c.deref.ensures.value)
    (changed_within c.args.states.now c.args.name.now c.args.on (is_covered c.args.ranges.now) cells c.in_ok-changed.changed.items c.in_ok-changed.ensures.order c.in_ok-changed.ensures.places)

pub returns-clause-ok : goal.returns-clause-ok
returns-clause-ok g c =
    let cells = g.S.TextStore.list c.args.store.now in
    let name = c.args.name.now in
    let changed = c.in_ok-changed.changed.items in
    let tags = λ (spans : List Span). map (λ (part : List Span). Tag c.args.on name part) (parts_of MOST_SPANS spans) in
    let stamps = ap (λ (l : List Range). stamps_at (is_covered l) 0 cells) c.deref.ensures.value
    ∙ stamps_changed c.args.states.now name c.args.on (is_covered changed) (is_covered c.args.ranges.now) cells c.in_ok-changed.ensures.places in
    on_ok_weaker c.push_tags.result
    (λ h. h ∙ ap (λ spans. map body_of c.args.drafts.now.items ++ tags spans) (c.deref-2.ensures.value ∙ c.in_ok-spans.ensures.ok ∙ ap spans_in stamps)) c.push_tags.ensures.ok
