use Rattle.std.proofs.Common.{◌≡◌, ◌∙◌, ◌+◌, List, ap, arith, get_or, length, map, subst, sym, take, ℕ}
use Rattle.std.proofs.lemmas.Grind.{get_or_default_zero}
use Rattle.rt_store.specs.declared.cell.Cell.{Cell}
use Rattle.rt_store.specs.Shown.{shown}
use Rattle.rt_store.specs.Tagged.{AreStates}
use Rattle.rt_tags.specs.States.{names_on, state_at}
use Rattle.rt_tags.proofs.Listing.{keeps_both}
use Rattle.rt_revert.specs.Progress.{LookAlike}
use Rattle.rt_revert.proofs.Copied.{more_alike, more_states}
use Rattle.rt_revert.proofs.OffsetLaws.{stood, stood_length, take_past}
use Rattle.rt_revert.proofs.copying.kept_cells.Goals as goal

pub returns-in_err-alike-clause-ids : goal.returns-in_err-alike-clause-ids
returns-in_err-alike-clause-ids g c = keeps_both c.args.kept.now c.loop-position.kept c.alike_state.new.table c.loop-position.invariant.ids c.alike_state.ensures.ids

pub returns-in_err-push-clause-ids : goal.returns-in_err-push-clause-ids
returns-in_err-push-clause-ids g c = keeps_both c.args.kept.now c.loop-position.kept c.alike_state.new.table c.loop-position.invariant.ids c.alike_state.ensures.ids

pub loop-position-preserved : goal.loop-position-preserved
loop-position-preserved g c =
    let store = g.S.TextStore.list c.args.store.now in
    let positions = c.args.positions.now in
    let i = c.loop-position.position-index in
    let old = c.loop-position.kept in
    let new = c.alike_state.new.table in
    let cells = c.loop-position.cells.items in
    let cell = c.nth-cell.result in
    let alike = c.in_ok-alike.alike in
    let id = alike.own in
    let states = c.args.states.now in
    record {
      states = subst (AreStates new) (sym c.in_ok-push.ensures.items) (more_states old new cells id cell c.alike_state.ensures.ids c.loop-position.invariant.states c.in_ok-alike.ensures.alike.given);
      alike = λ named h. subst (λ (l : List (Cell ℕ)). LookAlike (map (shown new) l) (map (shown states) (take (i + 1) named))) (sym c.in_ok-push.ensures.items)
          (more_alike states old new named cells i id cell c.alike_state.ensures.ids c.loop-position.invariant.states
          (stood store positions named i (get_or positions i 0) cell h c.loop-position-test.true (sym (get_or_default_zero positions i (get_or positions i 0) c.loop-position-test.true)) c.nth-cell.ensures)
          (c.in_ok-alike.ensures.alike.names ∙ ap (λ s. names_on (state_at states s)) c.in_ok-alike.ensures.theirs) (c.loop-position.invariant.alike named h));
      known = c.in_ok-alike.ensures.alike;
      ids = keeps_both c.args.kept.now old new c.loop-position.invariant.ids c.alike_state.ensures.ids;
    }

pub returns-clause-alike : goal.returns-clause-alike
returns-clause-alike g c named h =
    let store = g.S.TextStore.list c.args.store.now in
    let positions = c.args.positions.now in
    let i = c.loop-position.position-index in
    let all : length named ≡ length positions = stood_length store positions named h in
    subst (λ (l : List (Cell ℕ)). LookAlike (map (shown c.loop-position.kept) c.loop-position.cells.items) (map (shown c.args.states.now) l))
    (take_past i named (omega (arith, all, c.loop-position-test.false))) (c.loop-position.invariant.alike named h)
