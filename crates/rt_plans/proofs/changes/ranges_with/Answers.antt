use Rattle.std.proofs.Common.{◌≡◌, ◌∙◌, ◌+◌, ◌&&◌, ◌||◌, ◌∷◌, ℕ, Bool, List, true, false, ap, arith, drop, get_or, refl, subst, sym}
use Rattle.std.proofs.lemmas.List.{drop_all, drop_more}
use Rattle.rt_store.specs.Cells.{visible_of}
use Rattle.rt_store.specs.Tagged.{tag_is}
use Rattle.rt_plans.specs.declared.range.Range.{Range}
use Rattle.rt_plans.specs.Removals.{RangesFollow, is_covered, is_in}
use Rattle.rt_plans.specs.TagWrites.{passes_at}
use Rattle.rt_plans.proofs.PassingPlaces.{ends_later, range_so_far}
use Rattle.rt_plans.proofs.changes.ranges_with.Goals as goal

pub push_with-requires-clause-range : goal.push_with-requires-clause-range
push_with-requires-clause-range g c =
    let ranges = c.args.ranges.now in
    let i = c.loop-range.range-index in
    let d : Range = record { from = 0; to = 0 } in
    let ahead = c.loop-range.invariant.ahead in
    let next : RangesFollow ahead.0 (get_or ranges i d ∷ drop (i + 1) ranges) = subst (RangesFollow ahead.0) (drop_more ranges i d c.loop-range-test.true) ahead.2 in
    omega (arith, next.1)

pub push_with-requires-clause-ends : goal.push_with-requires-clause-ends
push_with-requires-clause-ends g c =
    let ranges = c.args.ranges.now in
    let i = c.loop-range.range-index in
    let d : Range = record { from = 0; to = 0 } in
    let ahead = c.loop-range.invariant.ahead in
    let next : RangesFollow ahead.0 (get_or ranges i d ∷ drop (i + 1) ranges) = subst (RangesFollow ahead.0) (drop_more ranges i d c.loop-range-test.true) ahead.2 in
    ends_later c.loop-range.found.items ahead.0 (get_or ranges i d).from ahead.1 next.0

pub loop-range-preserved : goal.loop-range-preserved
loop-range-preserved g c =
    let ranges = c.args.ranges.now in
    let passes : ℕ → Bool = passes_at (tag_is c.args.states.now c.args.tag c.args.on) (visible_of (g.S.TextStore.list c.args.store.now)) in
    let i = c.loop-range.range-index in
    let d : Range = record { from = 0; to = 0 } in
    let range = get_or ranges i d in
    let left = drop (i + 1) ranges in
    let done = c.loop-range.found.items in
    let known = c.loop-range.invariant in
    let is : drop i ranges ≡ range ∷ left = drop_more ranges i d c.loop-range-test.true in
    let next : RangesFollow known.ahead.0 (range ∷ left) = subst (RangesFollow known.ahead.0) is known.ahead.2 in
    record {
      order = c.in_ok-push_with.ensures.order;
      ahead = (range.to, c.in_ok-push_with.ensures.ends, next.2);
      places = λ place.
          range_so_far (is_covered done place) (is_covered c.push_with.new.found.items place) (is_in range place) (is_covered left place) (passes place) _ (c.in_ok-push_with.ensures.places place)
          (ap (λ (l : List Range). is_covered done place || (is_covered l place && passes place)) (sym is) ∙ known.places place);
    }

pub returns-clause-places : goal.returns-clause-places
returns-clause-places g c = λ place.
    let passes : ℕ → Bool = passes_at (tag_is c.args.states.now c.args.tag c.args.on) (visible_of (g.S.TextStore.list c.args.store.now)) in
    let held = is_covered c.loop-range.found.items place in
    plain held ∙ ap (λ (l : List Range). held || (is_covered l place && passes place)) (sym (drop_all c.loop-range.range-index c.args.ranges.now (omega arith))) ∙ c.loop-range.invariant.places place
  where
    plain : (b : Bool) → b ≡ (b || false)
    plain true = refl
    plain false = refl
