use Rattle.std.proofs.lemmas.Result.{err_from_is_err_and}
use Rattle.std.proofs.Common.{◌≡◌, ◌∙◌, ℕ, Bool, ap, map, subst, sym}
use Rattle.rt_store.specs.Shown.{shown}
use Rattle.rt_store.specs.Tagged.{AreStates}
use Rattle.rt_tags.specs.States.{IsState, state_at}
use Rattle.rt_plans.specs.Deletions.{Loss}
use Rattle.rt_plans.specs.Removals.{cells_at, is_covered}
use Rattle.rt_plans.proofs.Putting.{all_at}
use Rattle.rt_plans.proofs.Shown.{cells_at_shown}
use Rattle.rt_lines.specs.Stretches.{stretch_of}
use Rattle.rt_text.specs.Widgets.{ViewValue}
use Rattle.rt_text.proofs.LimitedDeletions.{loss_kept, loss_of}
use Rattle.rt_text.proofs.view.View.lost.Goals as goal

pub returns-in_err-removed : goal.returns-in_err-removed
returns-in_err-removed g c =
    let p = err_from_is_err_and c.from_residual.result c.from_residual.ensures.1 in
    rw (p.1, p.2) (record { cells = tt; states = tt; err = c.in_err-removed.ensures.err })

pub returns-in_err-cells : goal.returns-in_err-cells
returns-in_err-cells g c =
    let p = err_from_is_err_and c.from_residual-in_err-cells.result c.from_residual-in_err-cells.ensures.1 in
    rw (p.1, p.2) (record { cells = tt; states = tt; err = c.in_err-cells.ensures.err })

pub returns-clause-err : goal.returns-clause-err
returns-clause-err g c = tt

pub returns-clause-cells : goal.returns-clause-cells
returns-clause-cells g c =
    let view = c.args.self.now in
    let ranges = c.args.ranges.now in
    let kept = g.S.TextStore.list c.kept.result.0.now in
    let table = c.kept.result.1.now in
    let cells : map (shown table) kept ≡ view.doc.cells = c.kept.ensures.cells ∙ ap (λ (v : ViewValue). v.doc.cells) c.self.view_is in
    let limits = view.own.limits in
    let stretch : c.stretch-stretch.result ≡ stretch_of kept limits = c.stretch-stretch.ensures.value ∙ ap (stretch_of kept) (c.limits.ensures ∙ ap (λ (v : ViewValue). v.own.limits) c.self.view_is) in
    let removed : ℕ → Bool = is_covered c.in_ok-removed.removed.items in
    let lost : ℕ → Bool = (loss_of view.doc limits ranges).places in
    let same : (place : ℕ) → removed place ≡ lost place =
    λ place. c.in_ok-removed.ensures.places place ∙ ap (λ (l : Loss). l.places place) (loss_kept table kept view.doc limits c.stretch-stretch.result ranges cells stretch) in
    ap (map (shown table)) (c.in_ok-cells.ensures.ok ∙ ap (λ r. cells_at (is_covered r) 0 kept) c.deref.ensures.value)
    ∙ sym (cells_at_shown (state_at table) removed 0 kept) ∙ ap (cells_at removed 0) cells ∙ (λ i. cells_at (λ place. same place i) 0 view.doc.cells)

pub returns-clause-states : goal.returns-clause-states
returns-clause-states g c =
    let kept = g.S.TextStore.list c.kept.result.0.now in
    let table = c.kept.result.1.now in
    subst (AreStates table) (sym c.in_ok-cells.ensures.ok) (all_at (λ cell. IsState table cell.state) (is_covered c.deref.result.now) 0 kept c.kept.ensures.states)
