use Rattle.std.proofs.Common.{◌∙◌, ◌<◌, ◌≤◌, ◌+◌, List, ap, arith, length, sym, refl}
use Rattle.std.specs.Prelude.{option_map}
use Rattle.rt_index.specs.Widget.{tag_last}
use Rattle.rt_store.specs.Cells.{text_of, visible_of}
use Rattle.rt_store.specs.Shown.{TaggedCell, shown}
use Rattle.rt_store.proofs.Shown.{text_shown}
use Rattle.rt_tags.specs.States.{state_at}
use Rattle.rt_text.specs.Proper.{last_within}
use Rattle.rt_plans.specs.Selected.{selected_stamps}
use Rattle.rt_text.specs.Grounds.{widget_over}
use Rattle.rt_text.specs.Owned.{widget_value}
use Rattle.rt_text.specs.Widgets.{is_tagged_in}
use Rattle.rt_plans.proofs.PlaceLaws.{length_text, text_within}
use Rattle.rt_lines.proofs.Parts.{part_length}
use Rattle.rt_lines.specs.Stretches.{part}
use Rattle.rt_text.proofs.SeenLaws.{stops_by}
use Rattle.rt_text.proofs.ground.WidgetGroundGround.tag_last.Goals as goal

pub last_within-requires-clause-stretch : goal.last_within-requires-clause-stretch
last_within-requires-clause-stretch g c =
    let ground = c.args.self.now in
    let kept = g.S.TextStore.list c.kept.result.0.now in
    let same = ap (λ (cells : List TaggedCell). length (text_of cells)) (c.kept.ensures.cells ∙ ground.same) in
    omega (arith, ground.lines.within, same, ap length (text_shown (state_at c.kept.result.1.now) kept), length_text kept)

pub returns-in_err-last : goal.returns-in_err-last
returns-in_err-last g c =
    let ground = c.args.self.now in
    c.from_residual.ensures ∙ ap (option_map (λ q. q + 1)) (sym c.in_err-last.was ∙ c.last_within.ensures)
    ∙ stops_by c.kept.result.1.now (g.S.TextStore.list c.kept.result.0.now) ground.stretch ground.marks.now ground.tags.now.names (selected_stamps ground.widget.now.selection) (widget_value ground.widget.now) c.args.name.now
    refl (sym c.has.ensures ∙ c.if-not-has.false)
    ∙ ap (λ (cells : List TaggedCell). tag_last (widget_over ground.stretch cells ground.marks.now ground.tags.now.names (widget_value ground.widget.now)) c.args.name.now) (c.kept.ensures.cells ∙ ground.same)

pub overflow_add-result : goal.overflow_add-result
overflow_add-result g c =
    let ground = c.args.self.now in
    let kept = g.S.TextStore.list c.kept.result.0.now in
    let chars = part ground.stretch (visible_of kept) in
    let within : c.in_ok-last.last < length chars =
    last_within (λ cell. is_tagged_in (selected_stamps ground.widget.now.selection) c.args.name.now (shown c.kept.result.1.now cell)) chars c.in_ok-last.last (sym c.last_within.ensures ∙ c.in_ok-last.was) in
    let same = ap (λ (cells : List TaggedCell). length (text_of cells)) (c.kept.ensures.cells ∙ ground.same) in
    let fits : ground.stretch.end ≤ length (visible_of kept) = omega (arith, ground.lines.within, same, ap length (text_shown (state_at c.kept.result.1.now) kept), length_text kept) in
    let long = part_length ground.stretch (visible_of kept) fits in
    omega (arith, within, long, fits, length_text kept, text_within kept, c.kept.ensures.few, c.kept.ensures.most)

pub returns : goal.returns
returns g c =
    let ground = c.args.self.now in
    ap (option_map (λ q. q + 1)) (sym c.in_ok-last.was ∙ c.last_within.ensures)
    ∙ stops_by c.kept.result.1.now (g.S.TextStore.list c.kept.result.0.now) ground.stretch ground.marks.now ground.tags.now.names (selected_stamps ground.widget.now.selection) (widget_value ground.widget.now) c.args.name.now
    refl (sym c.has.ensures ∙ c.if-not-has.false)
    ∙ ap (λ (cells : List TaggedCell). tag_last (widget_over ground.stretch cells ground.marks.now ground.tags.now.names (widget_value ground.widget.now)) c.args.name.now) (c.kept.ensures.cells ∙ ground.same)
