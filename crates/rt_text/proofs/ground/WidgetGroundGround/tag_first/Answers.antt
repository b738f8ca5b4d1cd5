use Rattle.std.proofs.Common.{◌∙◌, List, ap, arith, length, sym, refl}
use Rattle.rt_plans.specs.Selected.{selected_stamps}
use Rattle.rt_plans.proofs.PlaceLaws.{length_text}
use Rattle.rt_index.specs.Widget.{tag_first}
use Rattle.rt_store.specs.Cells.{text_of}
use Rattle.rt_store.specs.Shown.{TaggedCell}
use Rattle.rt_store.proofs.Shown.{text_shown}
use Rattle.rt_tags.specs.States.{state_at}
use Rattle.rt_text.specs.Grounds.{widget_over}
use Rattle.rt_text.specs.Owned.{widget_value}
use Rattle.rt_text.proofs.SeenLaws.{begins_by}
use Rattle.rt_text.proofs.ground.WidgetGroundGround.tag_first.Goals as goal

pub next_within-requires-clause-stretch : goal.next_within-requires-clause-stretch
next_within-requires-clause-stretch g c =
    let ground = c.args.self.now in
    let kept = g.S.TextStore.list c.kept.result.0.now in
    let same = ap (λ (cells : List TaggedCell). length (text_of cells)) (c.kept.ensures.cells ∙ ground.same) in
    omega (arith, ground.lines.within, same, ap length (text_shown (state_at c.kept.result.1.now) kept), length_text kept)

pub returns : goal.returns
returns g c =
    let ground = c.args.self.now in
    c.next_within.ensures
    ∙ begins_by c.kept.result.1.now (g.S.TextStore.list c.kept.result.0.now) ground.stretch ground.marks.now ground.tags.now.names (selected_stamps ground.widget.now.selection) (widget_value ground.widget.now) c.args.name.now
    refl (sym c.has.ensures ∙ c.if-not-has.false)
    ∙ ap (λ (cells : List TaggedCell). tag_first (widget_over ground.stretch cells ground.marks.now ground.tags.now.names (widget_value ground.widget.now)) c.args.name.now) (c.kept.ensures.cells ∙ ground.same)
