use Rattle.std.proofs.Common.{◌≡◌, ◌∙◌, ◌≤◌, ◌++◌, ◌&&◌, ◌||◌, [], ◌∷◌, ℕ, All, List, Bool, ap, arith, subst, sym}
use Rattle.rt_store.specs.Cells.{visible_of}
use Rattle.rt_store.specs.Tagged.{tag_is}
use Rattle.rt_plans.specs.declared.range.Range.{Range}
use Rattle.rt_plans.specs.Removals.{RangesFollow, is_covered, is_in}
use Rattle.rt_plans.specs.TagWrites.{passes_at}
use Rattle.rt_plans.proofs.PassingPlaces.{ends_later, ends_put, order_put, places_so_far}
use Rattle.rt_plans.proofs.changes.push_with.Goals as goal

pub loop-next-preserved : goal.loop-next-preserved
loop-next-preserved g c =
    let passes : ℕ → Bool = passes_at (tag_is c.args.states.now c.args.tag c.args.on) (visible_of (g.S.TextStore.list c.args.store.now)) in
    let done = c.loop-next.found.items in
    let rest = c.loop-next.rest in
    let next = c.in-Some.next in
    let w = c.in-Some.ensures.within in
    let known = c.loop-next.invariant in
    let items : c.push.new.self.items ≡ done ++ next ∷ [] = c.in_ok-push.ensures.items in
    let later : rest.from ≤ next.to = omega (arith, w.0, w.1) in
    record {
      within = w.2;
      to = known.to;
      order = subst (RangesFollow 0) (sym items) (order_put done next 0 known.order (ends_later done rest.from next.from known.ends w.0) (omega arith) w.1);
      ends = subst (All (λ (range : Range). range.to ≤ next.to)) (sym items) (ends_put done next rest.from known.ends later);
      places = λ place.
          ap (λ (l : List Range). is_covered l place || (is_in (record rest { from = next.to }) place && passes place)) items
          ∙ places_so_far done rest next passes place _ later (c.in-Some.ensures.places place) (known.places place);
    }
