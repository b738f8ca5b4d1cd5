use Rattle.std.proofs.Common.{◌≡◌, ◌∙◌, ◌++◌, ◌||◌, List, Some, ap, subst, sym, append-nil}
use Rattle.rt_plans.specs.declared.range.Range.{Range}
use Rattle.rt_plans.specs.Removals.{RangesFollow, is_covered}
use Rattle.rt_revert.specs.Planning.{range_at}
use Rattle.rt_revert.proofs.SpansCovered.{order_joined, placed_alone, placed_behind}
use Rattle.rt_revert.proofs.work.push_place.Goals as goal
use Rattle.rt_revert.proofs.work.push_place.Goals.{in-Some+else-is_behind, in_default}

pub returns-then-is_behind-clause-ok : goal.returns-then-is_behind-clause-ok
returns-then-is_behind-clause-ok c at =
    let place = c.args.place in
    ap (λ l. is_covered l at) c.push_reserved.ensures.items
    ∙ placed_behind c.pop.new.self.items c.in-Some.last place at (sym c.is_behind.ensures ∙ c.if-is_behind.true)
    ∙ ap (λ l. is_covered l at || is_covered (range_at (Some place)) at) (sym c.in-Some.ensures.items)

pub returns-then-is_behind-clause-order : goal.returns-then-is_behind-clause-order
returns-then-is_behind-clause-order c more h =
    let place = c.args.place in
    subst (λ (l : List Range). RangesFollow 0 (l ++ more)) (sym c.push_reserved.ensures.items)
    (order_joined c.pop.new.self.items c.in-Some.last place more 0 (sym c.is_behind.ensures ∙ c.if-is_behind.true)
    (subst (λ (l : List Range). RangesFollow 0 ((l ++ range_at (Some place)) ++ more)) c.in-Some.ensures.items h))

pub returns-clause-ok : goal.returns-clause-ok
returns-clause-ok c at =
    let place = c.args.place in
    let same : c.match-pop.ranges.items ≡ c.args.ranges.now.items = elim c.match-pop.branch [
      | in-Some+else-is_behind w ↦ (λ i. (w.ranges-is i).items) ∙ w.push_reserved-in-Some.ensures.items ∙ sym w.in-Some.ensures.items
      | in_default w ↦ (λ i. (w.ranges-is i).items) ∙ sym (append-nil c.pop.new.self.items) ∙ sym w.in_default.ensures.items
    ] in
    ap (λ l. is_covered l at) c.in_ok-push.ensures.items
    ∙ placed_alone c.match-pop.ranges.items place at
    ∙ ap (λ l. is_covered l at || is_covered (range_at (Some place)) at) same

pub returns-clause-order : goal.returns-clause-order
returns-clause-order c more h =
    let place = c.args.place in
    let same : c.match-pop.ranges.items ≡ c.args.ranges.now.items = elim c.match-pop.branch [
      | in-Some+else-is_behind w ↦ (λ i. (w.ranges-is i).items) ∙ w.push_reserved-in-Some.ensures.items ∙ sym w.in-Some.ensures.items
      | in_default w ↦ (λ i. (w.ranges-is i).items) ∙ sym (append-nil c.pop.new.self.items) ∙ sym w.in_default.ensures.items
    ] in
    subst (λ (l : List Range). RangesFollow 0 (l ++ more)) (sym c.in_ok-push.ensures.items)
    (subst (λ (l : List Range). RangesFollow 0 ((l ++ range_at (Some place)) ++ more)) (sym same) h)
