use Rattle.std.proofs.Common.{◌∙◌, Bool, ℕ, ap, sym}
use Rattle.std.specs.Prelude.{option_and_then}
use Rattle.rt_store.specs.declared.cell.Cell.{Cell}
use Rattle.rt_store.specs.Cells.{visible_of}
use Rattle.rt_store.specs.Shown.{shown}
use Rattle.rt_plans.specs.Selected.{selected_stamps}
use Rattle.rt_text.specs.Widgets.{is_tagged_in}
use Rattle.rt_text.proofs.PartPlaces.{offset_from, checked_behind, last_in_part}
use Rattle.rt_text.proofs.characters.last_within.Goals as goal

pub returns-in_err-at : goal.returns-in_err-at
returns-in_err-at g c =
    let cells = visible_of (g.S.TextStore.list c.args.store.now) in
    let test : Cell ℕ → Bool = λ cell. is_tagged_in (selected_stamps c.args.selection.now) c.args.name.now (shown c.args.states.now cell) in
    c.from_residual.ensures ∙ ap (option_and_then (offset_from c.args.stretch.begin)) (sym c.in_err-at.was ∙ c.last_before.ensures) ∙ last_in_part test c.args.stretch cells

pub returns : goal.returns
returns g c =
    let cells = visible_of (g.S.TextStore.list c.args.store.now) in
    let test : Cell ℕ → Bool = λ cell. is_tagged_in (selected_stamps c.args.selection.now) c.args.name.now (shown c.args.states.now cell) in
    checked_behind c.args.stretch.begin c.in_ok-at.at c.checked_sub.result c.checked_sub.ensures
    ∙ ap (option_and_then (offset_from c.args.stretch.begin)) (sym c.in_ok-at.was ∙ c.last_before.ensures) ∙ last_in_part test c.args.stretch cells
