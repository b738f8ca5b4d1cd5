use Rattle.std.proofs.Common.{◌≡◌, ◌∙◌, arith, length, map, refl, ap}
use Rattle.rt_stamps.specs.Places.{position_at}
use Rattle.rt_store.specs.Cells.{text_of}
use Rattle.rt_text.specs.Owned.{widget_value}
use Rattle.rt_text.specs.Widgets.{text_shown}
use Rattle.rt_text.proofs.SeenLaws.{store_seen}
use Rattle.rt_lines.specs.Stretches.{part, stretch_of}
use Rattle.rt_text.proofs.view_ref.ViewRef.position.Goals as goal

pub position-requires : goal.position-requires
position-requires g c =
    let view = c.args.self.now in
    let text : part (stretch_of c.self.inside.doc.now.cells c.limits.result) (text_of c.self.inside.doc.now.cells) ≡ text_shown view =
    store_seen view c.self.inside.doc.now (widget_value c.self.inside.widget.now) (map widget_value c.self.inside.others.now) c.limits.result (stretch_of c.self.inside.doc.now.cells c.limits.result) (text_of c.self.inside.doc.now.cells) c.self.view_is c.limits.ensures refl refl in
    omega (arith, ap length text, c.requires)

pub returns : goal.returns
returns g c =
    let view = c.args.self.now in
    let text : part (stretch_of c.self.inside.doc.now.cells c.limits.result) (text_of c.self.inside.doc.now.cells) ≡ text_shown view =
    store_seen view c.self.inside.doc.now (widget_value c.self.inside.widget.now) (map widget_value c.self.inside.others.now) c.limits.result (stretch_of c.self.inside.doc.now.cells c.limits.result) (text_of c.self.inside.doc.now.cells) c.self.view_is c.limits.ensures refl refl in
    c.position.ensures ∙ ap (λ t. position_at t c.args.place) text
