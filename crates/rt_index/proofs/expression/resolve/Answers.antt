use Rattle.std.proofs.Common.{◌∙◌, ap, sym, Ok, Some}
use Rattle.std.proofs.lemmas.Result.{err_from_is_err_and}
use Rattle.rt_index.specs.Index.{index_of, moved_from}
use Rattle.rt_index.specs.Values.{all_moved}
use Rattle.rt_index.proofs.expression.resolve.Goals as goal

pub returns-in_err-place : goal.returns-in_err-place
returns-in_err-place g c =
    let w = g.G.Ground.widget c.args.ground.now in
    let (y, is, gives) = err_from_is_err_and c.from_residual.result c.from_residual.ensures.1 in
    let told = c.expr.invariant.same w (g.met.G.Ground.proper c.args.ground.now) in
    let same = ap (λ place. moved_from w.text place (Some c.expr.inside.modifiers.items)) c.in_err-place.ensures.value ∙ sym told ∙ ap (index_of w) c.expr.view_is in
    rw (is, gives) (record { place = same; within = tt })

pub all_moved-requires : goal.all_moved-requires
all_moved-requires g c = c.in_ok-place.ensures.within

pub returns-clause-place : goal.returns-clause-place
returns-clause-place g c =
    let w = g.G.Ground.widget c.args.ground.now in
    let told = c.expr.invariant.same w (g.met.G.Ground.proper c.args.ground.now) in
    ap (λ place. Ok place) (c.all_moved.ensures.value ∙ ap (λ modifiers. all_moved w.text c.in_ok-place.place modifiers) c.as_slice.ensures)
    ∙ ap (λ place. moved_from w.text place (Some c.expr.inside.modifiers.items)) c.in_ok-place.ensures.value
    ∙ sym told
    ∙ ap (index_of w) c.expr.view_is

pub returns-clause-within : goal.returns-clause-within
returns-clause-within g c = c.all_moved.ensures.within
