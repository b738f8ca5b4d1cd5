use Rattle.std.proofs.Common.{◌≡◌, ◌∙◌, ◌+◌, ◌∷◌, List, Bool, true, false, not, ap, drop, get_or, refl, subst, sym}
use Rattle.std.specs.List.{list_all}
use Rattle.std.proofs.lemmas.Bool.{and_parts}
use Rattle.std.proofs.lemmas.List.{drop_more}
use Rattle.rt_stamps.specs.declared.stamp.Span.{Span}
use Rattle.rt_store.specs.Spans.{each_next, is_clear_of, is_in_spans, is_span}
use Rattle.rt_plans.specs.NamedSpans.{begins_by}
use Rattle.rt_plans.proofs.JoinedSpans.{Joins, all_joined, first_begins, joined_clear, joined_forward, joined_from, joined_hold, one_done, one_longer}
use Rattle.rt_plans.proofs.runs.joined.Goals as goal
use Rattle.rt_plans.proofs.runs.joined.Goals.{then-goes_on, else-goes_on+in_ok-push}

pub goes_on-requires : goal.goes_on-requires
goes_on-requires c =
    let others = c.in-Some.others.now in
    let i = c.loop-next.next-index in
    let span = c.loop-next.span in
    let d : Span = record { site = 0; first = 0; last = 0 } in
    first_begins span (get_or others i d) (drop (i + 1) others)
    (ap (λ l. each_next begins_by (span ∷ l)) (sym (drop_more others i d c.loop-next-test.true)) ∙ c.loop-next.invariant.sorted)

pub loop-next-preserved : goal.loop-next-preserved
loop-next-preserved c =
    let others = c.in-Some.others.now in
    let i = c.loop-next.next-index in
    let span = c.loop-next.span in
    let done = c.loop-next.joined.items in
    let all = joined_from c.in-Some.first.now others in
    let d : Span = record { site = 0; first = 0; last = 0 } in
    let next = get_or others i d in
    let left = drop (i + 1) others in
    let before : Joins all done span (next ∷ left) = subst (Joins all done span) (drop_more others i d c.loop-next-test.true) c.loop-next.invariant in
    elim c.if-goes_on.branch [
      | then-goes_on w ↦
          rw (w.joined-is, w.span-is) (subst (λ n. Joins all done (record span { last = n }) left) (sym w.max.ensures) (one_longer all done span next left before (not_true (is_clear_of span next) (sym c.goes_on.ensures ∙ w.if-goes_on.true))))
      | else-goes_on+in_ok-push w ↦
          rw (w.joined-is, w.span-is) (subst (λ l. Joins all l next left) (sym w.in_ok-push.ensures.items) (one_done all done span next left before (not_false (is_clear_of span next) (sym c.goes_on.ensures ∙ w.if-goes_on.false))))
    ]
  where
    not_true : (b : Bool) → not b ≡ true → b ≡ false
    not_true true h = sym h
    not_true false h = refl

    not_false : (b : Bool) → not b ≡ false → b ≡ true
    not_false true h = refl
    not_false false h = sym h

pub returns-clause-same : goal.returns-clause-same
returns-clause-same c = λ stamp.
    let first = c.in-Some.first.now in
    let others = c.in-Some.others.now in
    let is = c.in-Some.ensures.cases.0 in
    let all : c.push-2.new.self.items ≡ joined_from first others =
    c.in_ok-push-2.ensures.items ∙ all_joined (joined_from first others) c.loop-next.joined.items c.loop-next.span others c.loop-next.next-index c.loop-next-test.false c.loop-next.invariant in
    let forward = and_parts (is_span first) (list_all is_span others) (ap (list_all is_span) (sym is) ∙ c.requires.forward) in
    ap (λ (l : List Span). is_in_spans l stamp) all ∙ joined_hold first others stamp (ap (each_next begins_by) (sym is) ∙ c.requires.sorted) forward.0 forward.1 ∙ ap (λ (l : List Span). is_in_spans l stamp) (sym is)

pub returns-clause-forward : goal.returns-clause-forward
returns-clause-forward c =
    let first = c.in-Some.first.now in
    let others = c.in-Some.others.now in
    let is = c.in-Some.ensures.cases.0 in
    let all : c.push-2.new.self.items ≡ joined_from first others =
    c.in_ok-push-2.ensures.items ∙ all_joined (joined_from first others) c.loop-next.joined.items c.loop-next.span others c.loop-next.next-index c.loop-next-test.false c.loop-next.invariant in
    let forward = and_parts (is_span first) (list_all is_span others) (ap (list_all is_span) (sym is) ∙ c.requires.forward) in
    ap (list_all is_span) all ∙ joined_forward first others forward.0 forward.1

pub returns-clause-clear : goal.returns-clause-clear
returns-clause-clear c =
    let first = c.in-Some.first.now in
    let others = c.in-Some.others.now in
    let all : c.push-2.new.self.items ≡ joined_from first others =
    c.in_ok-push-2.ensures.items ∙ all_joined (joined_from first others) c.loop-next.joined.items c.loop-next.span others c.loop-next.next-index c.loop-next-test.false c.loop-next.invariant in
    ap (each_next is_clear_of) all ∙ joined_clear first others
