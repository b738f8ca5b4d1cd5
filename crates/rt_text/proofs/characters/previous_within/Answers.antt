use Rattle.std.proofs.Common.{◌∙◌, ◌-◌, ◌^◌, Bool, ℕ, arith}
use Rattle.rt_store.specs.declared.cell.Cell.{Cell}
use Rattle.rt_store.specs.Cells.{visible_of}
use Rattle.rt_store.specs.Shown.{shown}
use Rattle.rt_plans.specs.Selected.{selected_stamps}
use Rattle.rt_text.specs.Widgets.{is_tagged_in}
use Rattle.rt_text.proofs.PartPlaces.{last_before}
use Rattle.rt_text.proofs.characters.previous_within.Goals as goal

pub returns : goal.returns
returns g c =
    let cells = visible_of (g.S.TextStore.list c.args.store.now) in
    let test : Cell ℕ → Bool = λ cell. is_tagged_in (selected_stamps c.args.selection.now) c.args.name.now (shown c.args.states.now cell) in
    let most = 2 ^ 64 - 1 in
    c.last_within.ensures ∙ last_before test c.args.stretch cells c.args.place c.saturating_add.result most c.min-end.result c.saturating_add.ensures (omega arith) c.min-end.ensures
