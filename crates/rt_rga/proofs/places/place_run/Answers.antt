use Rattle.std.proofs.Common.{◌≡◌, ◌∙◌, ◌+◌, ◌-◌, ◌||◌, false, Some, ap, arith}
use Rattle.std.specs.Prelude.{option_map}
use Rattle.rt_store.specs.Cells.{visible_before}
use Rattle.rt_rga.specs.Taken.{is_in_run}
use Rattle.rt_rga.proofs.PlaceRuns.{gone_places, run_places, run_within}
use Rattle.rt_rga.proofs.RemovedPlaces.{fewer}
use Rattle.rt_rga.proofs.places.place_run.Goals as goal

pub returns-then-run-clause-places : goal.returns-then-run-clause-places
returns-then-run-clause-places g c = λ place. gone_places (g.S.TextStore.list c.args.store.now) c.args.run.now place c.requires.distinct c.requires.run c.if-run.true

pub overflow_add-result : goal.overflow_add-result
overflow_add-result g c =
    let list = g.S.TextStore.list c.args.store.now in
    let at : Some c.in_ok-from.from ≡ Some (visible_before list c.requires.run.on.position) = c.in_ok-from.ensures ∙ ap (option_map (visible_before list)) c.requires.run.on.here in
    let from : c.in_ok-from.from ≡ visible_before list c.requires.run.on.position = cc at in
    omega (arith, from, run_within list c.args.run.now c.requires.distinct c.requires.run c.if-run.false, fewer list, c.requires.few)

pub overflow_add-result-2 : goal.overflow_add-result-2
overflow_add-result-2 g c =
    let list = g.S.TextStore.list c.args.store.now in
    let at : Some c.in_ok-from.from ≡ Some (visible_before list c.requires.run.on.position) = c.in_ok-from.ensures ∙ ap (option_map (visible_before list)) c.requires.run.on.here in
    let from : c.in_ok-from.from ≡ visible_before list c.requires.run.on.position = cc at in
    omega (arith, from, run_within list c.args.run.now c.requires.distinct c.requires.run c.if-run.false, fewer list, c.requires.few)

pub returns-clause-places : goal.returns-clause-places
returns-clause-places g c = λ place.
    let list = g.S.TextStore.list c.args.store.now in
    let run = c.args.run.now in
    let at : Some c.in_ok-from.from ≡ Some (visible_before list c.requires.run.on.position) = c.in_ok-from.ensures ∙ ap (option_map (visible_before list)) c.requires.run.on.here in
    let from : c.in_ok-from.from ≡ visible_before list c.requires.run.on.position = cc at in
    ap (λ first. is_in_run (record { from = first; to = first + (run.last - run.cell.stamp.count) + 1 }) place || false) from
    ∙ run_places list run c.requires.distinct c.requires.run c.if-run.false place

pub returns-clause-below : goal.returns-clause-below
returns-clause-below g c =
    let list = g.S.TextStore.list c.args.store.now in
    let at : Some c.in_ok-from.from ≡ Some (visible_before list c.requires.run.on.position) = c.in_ok-from.ensures ∙ ap (option_map (visible_before list)) c.requires.run.on.here in
    let from : c.in_ok-from.from ≡ visible_before list c.requires.run.on.position = cc at in
    (omega arith, omega (arith, from, run_within list c.args.run.now c.requires.distinct c.requires.run c.if-run.false))
