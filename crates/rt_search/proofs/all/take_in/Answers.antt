use Rattle.std.proofs.Common.{◌≡◌, ◌+◌, ◌<◌, ◌≤◌, ◌∷◌, ◌++◌, [], ℕ, List, length, sym, ap, subst, arith, true, false}
use Rattle.std.specs.Prelude.{fold}
use Rattle.rt_search.specs.Ends.{EndsDecide}
use Rattle.rt_search.specs.Searches.{is_taken, matches_in, with_match}
use Rattle.rt_search.proofs.Ending.{Taking, at_left, taking_ends, taking_none, taking_on, taking_push}
use Rattle.rt_search.proofs.Folding.{at_place, next_taken, passed, told, took}
use Rattle.rt_search.proofs.Passing.{all_left, begins, next_place}
use Rattle.rt_search.proofs.all.take_in.Goals as goal

pub loop-index-init : goal.loop-index-init
loop-index-init g c =
    let m = length c.args.pattern.now in
    let start = c.new-pass.ensures.start in
    let old = c.args.taken.now.items in
    record {
      pass = begins c.args.search c.args.pattern.now c.args.text.now c.room-room.result c.new-pass.result start c.new-pass.ensures.agreed (c.new-pass.ensures.shows c.args.text.now);
      taken = ap (fold (with_match c.args.overlaps m) old)
          (all_left c.args.search c.args.pattern.now c.args.text.now c.args.stretch c.room-room.result c.new-pass.result.start start c.room-room.ensures.matches);
      taking = subst (λ (n : ℕ). Taking c.args.search.direction c.room-room.result m old n old) (sym start) (taking_none c.args.search.direction c.room-room.result m old);
    }

pub is_taken-requires : goal.is_taken-requires
is_taken-requires g c =
    let m = length c.args.pattern.now in
    let d = c.args.search.direction in
    let room = c.room-room.result in
    let place = c.nth-place.result in
    let index = c.in-Some.index in
    let old = c.args.taken.now.items in
    let taken = c.loop-index.taken.items in
    let here = at_place d room index place c.in-Some.ensures.found.within c.nth-place.ensures.place in
    let begin : c.args.stretch.begin ≤ place = omega arith in
    let end : place < c.args.stretch.end = omega arith in
    subst (λ (xs : List ℕ). EndsDecide m xs place) (sym c.deref.ensures.value)
    (taking_ends d room m old index taken place
    (taking_on d room m old c.loop-index.pass.start index taken c.in-Some.ensures.found.from c.loop-index.invariant.taking)
    (c.requires.taken place begin end) (at_left d room index place here))

pub loop-index-preserved : goal.loop-index-preserved
loop-index-preserved g c =
    let m = length c.args.pattern.now in
    let d = c.args.search.direction in
    let room = c.room-room.result in
    let place = c.nth-place.result in
    let index = c.in-Some.index in
    let start = c.loop-index.pass.start in
    let after = c.next.new.self.start in
    let old = c.args.taken.now.items in
    let taken = c.loop-index.taken.items in
    let here = at_place d room index place c.in-Some.ensures.found.within c.nth-place.ensures.place in
    let yes : is_taken c.args.overlaps m taken place ≡ true =
    told c.args.overlaps m place taken c.deref.result.now c.is_taken.result true c.deref.ensures.value c.is_taken.ensures c.if-not-is_taken.false in
    let items : c.push.new.self.items ≡ taken ++ place ∷ [] = c.in_ok-push.ensures.items in
    let next = next_place c.args.search c.args.pattern.now c.args.text.now room start after index place c.in-Some.ensures.found c.nth-place.ensures.place in
    record {
      pass = c.in-Some.ensures.pass;
      taken = next_taken c.args.overlaps m old (matches_in c.args.search c.args.pattern.now c.args.text.now c.args.stretch) taken place _ _ c.push.new.self.items
          c.loop-index.invariant.taken next (took c.args.overlaps m taken c.push.new.self.items place yes items);
      taking = subst (λ (xs : List ℕ). Taking d room m old after xs) (sym items)
          (taking_on d room m old (index + 1) after (taken ++ place ∷ []) (omega (arith, c.in-Some.ensures.found.past))
          (taking_push d room m old index taken place here (taking_on d room m old start index taken c.in-Some.ensures.found.from c.loop-index.invariant.taking)));
    }

pub loop-index-preserved-then-not-is_taken : goal.loop-index-preserved-then-not-is_taken
loop-index-preserved-then-not-is_taken g c =
    let m = length c.args.pattern.now in
    let d = c.args.search.direction in
    let room = c.room-room.result in
    let place = c.nth-place.result in
    let index = c.in-Some.index in
    let start = c.loop-index.pass.start in
    let after = c.next.new.self.start in
    let old = c.args.taken.now.items in
    let taken = c.loop-index.taken.items in
    let not_so : is_taken c.args.overlaps m taken place ≡ false =
    told c.args.overlaps m place taken c.deref.result.now c.is_taken.result false c.deref.ensures.value c.is_taken.ensures c.if-not-is_taken.true in
    let next = next_place c.args.search c.args.pattern.now c.args.text.now room start after index place c.in-Some.ensures.found c.nth-place.ensures.place in
    record {
      pass = c.in-Some.ensures.pass;
      taken = next_taken c.args.overlaps m old (matches_in c.args.search c.args.pattern.now c.args.text.now c.args.stretch) taken place _ _ taken
          c.loop-index.invariant.taken next (passed c.args.overlaps m taken place not_so);
      taking = taking_on d room m old start after taken (omega (arith, c.in-Some.ensures.found.from, c.in-Some.ensures.found.past)) c.loop-index.invariant.taking;
    }
