use Rattle.std.proofs.Common.{◌≡◌, ◌∙◌, ◌-◌, ◌++◌, ◌∷◌, [], ap, arith, append_assoc, drop, take, sym}
use Rattle.rt_store.specs.Cells.{visible_of}
use Rattle.rt_plans.proofs.ChosenLaws.{chosen_more}
use Rattle.rt_plans.proofs.cells.push_cells.Goals as goal

pub loop-place-preserved : goal.loop-place-preserved
loop-place-preserved g c =
    let cells = visible_of (g.S.TextStore.list c.args.store.now) in
    let old = c.args.cells.now.items in
    let from = c.args.range.from in
    let place = c.loop-place.place in
    let cell = c.cell_at.result in
    c.in_ok-push.ensures.items ∙ ap (λ v. v ++ cell ∷ []) c.loop-place.invariant ∙ append_assoc old (take (place - from) (drop from cells)) (cell ∷ [])
    ∙ ap (λ v. old ++ v) (sym (chosen_more cells from place cell c.loop-place.auto.place (omega arith) c.cell_at.ensures))

pub returns-clause-ok : goal.returns-clause-ok
returns-clause-ok g c =
    let cells = visible_of (g.S.TextStore.list c.args.store.now) in
    let all : c.loop-place.place - c.args.range.from ≡ c.args.range.to - c.args.range.from = omega (arith, c.loop-place.auto.place-end c.requires.order) in
    c.loop-place.invariant ∙ ap (λ n. c.args.cells.now.items ++ take n (drop c.args.range.from cells)) all
