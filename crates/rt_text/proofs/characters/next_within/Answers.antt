use Rattle.std.proofs.Common.{◌∙◌, ◌-◌, ◌^◌, Bool, ℕ, cond, Some, None, ap, arith, sym}
use Rattle.std.specs.Prelude.{option_and_then}
use Rattle.std.proofs.lemmas.Bool.{le-ltb, lt-ltb}
use Rattle.rt_store.specs.declared.cell.Cell.{Cell}
use Rattle.rt_store.specs.Cells.{visible_of}
use Rattle.rt_plans.specs.Selected.{selected_stamps}
use Rattle.rt_text.proofs.PartPlaces.{next_after, next_in_part, within}
use Rattle.rt_text.proofs.TaggedLaws.{asks}
use Rattle.rt_text.proofs.characters.next_within.Goals as goal

pub returns-in_err-at : goal.returns-in_err-at
returns-in_err-at g c =
    let cells = visible_of (g.S.TextStore.list c.args.store.now) in
    let test : Cell ℕ → Bool = asks c.args.states.now (selected_stamps c.args.selection.now) c.args.name.now c.args.on in
    let most = 2 ^ 64 - 1 in
    c.from_residual.ensures ∙ ap (option_and_then (within c.args.stretch)) (sym c.in_err-at.was ∙ c.next_with.ensures)
    ∙ next_in_part test c.args.stretch cells c.args.place c.saturating_add-from.result most c.saturating_add-from.ensures (omega arith)

pub overflow_sub-result : goal.overflow_sub-result
overflow_sub-result g c =
    let cells = visible_of (g.S.TextStore.list c.args.store.now) in
    let test : Cell ℕ → Bool = asks c.args.states.now (selected_stamps c.args.selection.now) c.args.name.now c.args.on in
    omega (arith, next_after test cells c.saturating_add-from.result c.in_ok-at.at (sym c.next_with.ensures ∙ c.in_ok-at.was), c.saturating_add-from.ensures)

pub returns-then-at-stretch : goal.returns-then-at-stretch
returns-then-at-stretch g c =
    let cells = visible_of (g.S.TextStore.list c.args.store.now) in
    let test : Cell ℕ → Bool = asks c.args.states.now (selected_stamps c.args.selection.now) c.args.name.now c.args.on in
    let at = c.in_ok-at.at in
    let most = 2 ^ 64 - 1 in
    ap (λ b. cond b (Some (at - c.args.stretch.begin)) None) (sym (lt-ltb at c.args.stretch.end c.if-at-stretch.true))
    ∙ ap (option_and_then (within c.args.stretch)) (sym c.in_ok-at.was ∙ c.next_with.ensures)
    ∙ next_in_part test c.args.stretch cells c.args.place c.saturating_add-from.result most c.saturating_add-from.ensures (omega arith)

pub returns-else-at-stretch : goal.returns-else-at-stretch
returns-else-at-stretch g c =
    let cells = visible_of (g.S.TextStore.list c.args.store.now) in
    let test : Cell ℕ → Bool = asks c.args.states.now (selected_stamps c.args.selection.now) c.args.name.now c.args.on in
    let at = c.in_ok-at.at in
    let most = 2 ^ 64 - 1 in
    ap (λ b. cond b (Some (at - c.args.stretch.begin)) None) (sym (le-ltb at c.args.stretch.end c.if-at-stretch.false))
    ∙ ap (option_and_then (within c.args.stretch)) (sym c.in_ok-at.was ∙ c.next_with.ensures)
    ∙ next_in_part test c.args.stretch cells c.args.place c.saturating_add-from.result most c.saturating_add-from.ensures (omega arith)
