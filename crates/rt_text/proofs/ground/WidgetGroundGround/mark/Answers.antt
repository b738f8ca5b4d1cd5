use Rattle.std.proofs.Common.{◌∙◌, Some, None, ap, sym}
use Rattle.rt_text.specs.Owned.{widget_value}
use Rattle.rt_text.proofs.SeenLaws.{site_mark_seen}
use Rattle.rt_text.proofs.ground.WidgetGroundGround.mark.Goals as goal

pub returns-in_err-place-in-None : goal.returns-in_err-place-in-None
returns-in_err-place-in-None g c =
    let ground = c.args.self.now in
    c.from_residual.ensures
    ∙ site_mark_seen ground.stretch (widget_value ground.widget.now) ground.marks.now c.args.name.now None (sym c.in-None.is ∙ c.of.ensures) (sym c.in_err-place-in-None.was ∙ c.place-in-None.ensures)

pub returns-in_ok-place-in-None : goal.returns-in_ok-place-in-None
returns-in_ok-place-in-None g c =
    let ground = c.args.self.now in
    ap Some c.place-in-None-2.ensures.value
    ∙ site_mark_seen ground.stretch (widget_value ground.widget.now) ground.marks.now c.args.name.now (Some c.in_ok-place-in-None.field-0) (sym c.in-None.is ∙ c.of.ensures) (sym c.in_ok-place-in-None.was ∙ c.place-in-None.ensures)
