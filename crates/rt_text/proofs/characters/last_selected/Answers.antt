use Rattle.std.proofs.Common.{◌≡◌, ◌+◌, ◌-◌, ◌∙◌, Bool, ℕ, [], ap, arith, sym, take}
use Rattle.std.proofs.lemmas.List.{nil_from_length}
use Rattle.rt_store.specs.declared.cell.Cell.{Cell}
use Rattle.rt_store.specs.Cells.{visible_of}
use Rattle.rt_store.specs.Tagged.{last_place, previous_place}
use Rattle.rt_plans.specs.Selected.{selected_stamps}
use Rattle.rt_store.specs.Spans.{is_among}
use Rattle.rt_text.proofs.TaggedLaws.{last_never, previous_found, previous_passed}
use Rattle.rt_text.proofs.characters.last_selected.Goals as goal

pub returns-then-is_empty : goal.returns-then-is_empty
returns-then-is_empty g c =
    let cells = take c.args.end (visible_of (g.S.TextStore.list c.args.store.now)) in
    let none : selected_stamps c.args.selection.now ≡ [] = nil_from_length (selected_stamps c.args.selection.now) (grind (arith, c.is_empty.ensures, c.if-is_empty.true)) in
    sym (ap (λ stamps. last_place (λ cell. is_among stamps cell.stamp) cells) none ∙ last_never cells)

pub returns-then-has : goal.returns-then-has
returns-then-has g c =
    let cells = visible_of (g.S.TextStore.list c.args.store.now) in
    let test : Cell ℕ → Bool = λ cell. is_among (selected_stamps c.args.selection.now) cell.stamp in
    let next : c.loop-at.at - 1 + 1 ≡ c.loop-at.at = omega (arith, c.loop-at-test.true) in
    sym (previous_found test cells (c.loop-at.at - 1) c.cell_at.result c.cell_at.ensures (sym c.has.ensures ∙ c.if-has.true)) ∙ ap (previous_place test cells) next ∙ c.loop-at.invariant.same

pub loop-at-preserved : goal.loop-at-preserved
loop-at-preserved g c =
    let cells = visible_of (g.S.TextStore.list c.args.store.now) in
    let test : Cell ℕ → Bool = λ cell. is_among (selected_stamps c.args.selection.now) cell.stamp in
    let next : c.loop-at.at - 1 + 1 ≡ c.loop-at.at = omega (arith, c.loop-at-test.true) in
    record {
      same = sym (previous_passed test cells (c.loop-at.at - 1) c.cell_at.result c.cell_at.ensures (sym c.has.ensures ∙ c.if-has.false)) ∙ ap (previous_place test cells) next ∙ c.loop-at.invariant.same;
      within = omega (arith, c.loop-at.invariant.within);
    }
