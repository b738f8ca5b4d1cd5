use Rattle.std.proofs.Common.{◌≡◌, ◌-◌, ◌++◌, ◌∷◌, ◌∙◌, [], ℕ, List, ap, get_or, map, refl, subst, sym}
use Rattle.std.proofs.lemmas.List.{map_more, take_all}
use Rattle.std.proofs.lemmas.Result.{err_from_is_err_and}
use Rattle.rt_stamps.specs.Places.{position_at}
use Rattle.rt_stamps.specs.declared.position.Position.{Position}
use Rattle.rt_search.specs.Walks.{WalkStands}
use Rattle.rt_search.specs.declared.walk.Walk.{Walk}
use Rattle.rt_search.proofs.walk.positions.Goals as goal
use Rattle.rt_search.proofs.walk.positions.Goals.{then-place-walk, else-place-walk}

position_of : (text : List ℕ) (walk : Walk) → WalkStands text walk → ◌≡◌ {A = Position} (record { line = walk.line; character = walk.place - walk.start }) (position_at text walk.place)
position_of text walk s = λ j. record { line = s.line j; character = walk.place - s.start j }

pub position-requires : goal.position-requires
position-requires g c =
    let text = c.args.text.now in
    let stands : WalkStands text c.if-place-walk.walk = elim c.if-place-walk.branch [
      | then-place-walk w ↦ subst (λ walk. WalkStands text walk) (sym w.walk-is) w.at-walk-then-place-walk.ensures.stands
      | else-place-walk w ↦ subst (λ walk. WalkStands text walk) (sym w.walk-is) w.go_to.ensures.stands
    ] in
    stands.before

pub returns-in_err-push : goal.returns-in_err-push
returns-in_err-push g c =
    let (y, is, gives) = err_from_is_err_and c.from_residual.result c.from_residual.ensures.1 in
    rw (is, gives) (record { ok = tt; err = refl })

pub loop-place-preserved : goal.loop-place-preserved
loop-place-preserved g c =
    let text = c.args.text.now in
    let places = c.args.places.now in
    let index = c.loop-place.place-index in
    let stands : WalkStands text c.if-place-walk.walk = elim c.if-place-walk.branch [
      | then-place-walk w ↦ subst (λ walk. WalkStands text walk) (sym w.walk-is) w.at-walk-then-place-walk.ensures.stands
      | else-place-walk w ↦ subst (λ walk. WalkStands text walk) (sym w.walk-is) w.go_to.ensures.stands
    ] in
    let here : c.if-place-walk.walk.place ≡ get_or places index 0 = elim c.if-place-walk.branch [
      | then-place-walk w ↦ ap (λ (walk : Walk). walk.place) w.walk-is ∙ w.at-walk-then-place-walk.ensures.place
      | else-place-walk w ↦ ap (λ (walk : Walk). walk.place) w.walk-is ∙ w.go_to.ensures.place
    ] in
    let told = c.position.ensures ∙ position_of text c.if-place-walk.walk stands ∙ ap (position_at text) here in
    record {
      stands = stands;
      positions = c.in_ok-push.ensures.items
          ∙ (λ j. c.loop-place.invariant.positions j ++ told j ∷ [])
          ∙ sym (map_more (position_at text) places index 0 c.loop-place-test.true);
    }

pub returns-clause-ok : goal.returns-clause-ok
returns-clause-ok g c =
    c.loop-place.invariant.positions
    ∙ ap (map (position_at c.args.text.now)) (take_all c.loop-place.place-index c.args.places.now c.loop-place-test.false)
