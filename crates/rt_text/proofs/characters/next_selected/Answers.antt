use Rattle.std.proofs.Common.{◌≡◌, ◌∙◌, [], ap, arith, sym}
use Rattle.std.proofs.lemmas.List.{nil_from_length}
use Rattle.rt_store.specs.Cells.{visible_of}
use Rattle.rt_store.specs.Tagged.{next_place}
use Rattle.rt_plans.specs.Selected.{selected_stamps}
use Rattle.rt_text.proofs.TaggedLaws.{selects, next_found, next_passed}
use Rattle.rt_text.proofs.characters.next_selected.Goals as goal

pub returns-then-is_empty : goal.returns-then-is_empty
returns-then-is_empty g c =
    let none : selected_stamps c.args.selection.now ≡ [] = nil_from_length (selected_stamps c.args.selection.now) (grind (arith, c.is_empty.ensures, c.if-is_empty.true)) in
    c.next_without.ensures ∙ sym (ap (λ stamps. next_place (selects stamps c.args.selected) (visible_of (g.S.TextStore.list c.args.store.now)) c.args.place) none)

pub returns-then-is_selected : goal.returns-then-is_selected
returns-then-is_selected g c =
    sym (next_found (selects (selected_stamps c.args.selection.now) c.args.selected) (visible_of (g.S.TextStore.list c.args.store.now)) c.loop-at.at c.cell_at.result c.cell_at.ensures (sym c.is_selected.ensures ∙ c.if-is_selected.true))
    ∙ c.loop-at.invariant

pub loop-at-preserved : goal.loop-at-preserved
loop-at-preserved g c =
    sym (next_passed (selects (selected_stamps c.args.selection.now) c.args.selected) (visible_of (g.S.TextStore.list c.args.store.now)) c.loop-at.at c.cell_at.result c.cell_at.ensures (sym c.is_selected.ensures ∙ c.if-is_selected.false))
    ∙ c.loop-at.invariant
