use Rattle.std.proofs.Common.{◌≡◌, ◌∙◌, ℕ, Bool, List, ap, map, subst, sym}
use Rattle.std.specs.List.{AllByRecursion}
use Rattle.rt_stamps.specs.declared.limits.TheConstants.{MOST_SPANS}
use Rattle.rt_ops.specs.Operations.{stamps_in}
use Rattle.rt_store.specs.declared.cell.Cell.{Cell}
use Rattle.rt_tags.specs.States.{IsState}
use Rattle.rt_plans.specs.declared.range.Range.{Range}
use Rattle.rt_plans.specs.RemovalDrafts.{removal_drafts}
use Rattle.rt_plans.specs.Removals.{cells_at, is_covered}
use Rattle.rt_plans.proofs.Putting.{all_at}
use Rattle.rt_undo.specs.Actions.{Removed}
use Rattle.rt_revert.specs.Planning.{cell_removed}
use Rattle.rt_revert.specs.Plans.{named_removed}
use Rattle.rt_revert.specs.Reverting.{are_at}
use Rattle.rt_revert.proofs.WorkCells.{given_at, removed_named}
use Rattle.rt_revert.proofs.losses.planned_losses.Goals as goal

pub returns-clause-drafts : goal.returns-clause-drafts
returns-clause-drafts g c =
    let cells = g.S.TextStore.list c.args.store.now in
    let same : is_covered c.in_ok-places.places.items ≡ are_at (stamps_in c.args.spans.now) cells = λ i place. c.in_ok-places.ensures.places place i in
    c.in_ok-drafts.ensures.ok ∙ ap (λ (l : List Range). removal_drafts MOST_SPANS (is_covered l) cells) c.deref-3.ensures.value
    ∙ ap (λ (p : ℕ → Bool). removal_drafts MOST_SPANS p cells) same

pub returns-clause-removed : goal.returns-clause-removed
returns-clause-removed g c =
    let cells = g.S.TextStore.list c.args.store.now in
    let same : is_covered c.in_ok-places.places.items ≡ are_at (stamps_in c.args.spans.now) cells = λ i place. c.in_ok-places.ensures.places place i in
    ap (map (named_removed c.args.states.now)) (c.in_ok-removed.ensures.ok ∙ ap (map cell_removed) (c.deref-2.ensures.value ∙ c.in_ok-cells.ensures.ok
    ∙ ap (λ (l : List Range). cells_at (is_covered l) 0 cells) c.deref.ensures.value ∙ ap (λ (p : ℕ → Bool). cells_at p 0 cells) same))
    ∙ removed_named c.args.states.now (stamps_in c.args.spans.now) cells

pub returns-clause-given : goal.returns-clause-given
returns-clause-given g c =
    let cells = g.S.TextStore.list c.args.store.now in
    subst (AllByRecursion (λ (removed : Removed ℕ). IsState c.args.states.now removed.tags))
    (sym (c.in_ok-removed.ensures.ok ∙ ap (map cell_removed) (c.deref-2.ensures.value ∙ c.in_ok-cells.ensures.ok)))
    (given_at c.args.states.now _ (all_at (λ (cell : Cell ℕ). IsState c.args.states.now cell.state) (is_covered c.deref.result.now) 0 cells c.requires.states))
