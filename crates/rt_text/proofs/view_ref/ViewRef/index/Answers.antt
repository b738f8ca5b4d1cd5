use Rattle.std.proofs.lemmas.Result.{err_from_is_err_and}
use Rattle.std.proofs.Common.{◌≡◌, ◌∙◌, arith, length, map, refl, sym, ap, Ok}
use Rattle.rt_stamps.specs.Places.{position_at}
use Rattle.rt_store.specs.Cells.{text_of}
use Rattle.rt_text.specs.Owned.{widget_value}
use Rattle.rt_text.specs.Widgets.{text_shown, widget_of}
use Rattle.rt_text.proofs.Checks.{one_given, one_refused}
use Rattle.rt_text.proofs.SeenLaws.{store_seen}
use Rattle.rt_lines.specs.Stretches.{part, stretch_of}
use Rattle.rt_text.proofs.view_ref.ViewRef.index.Goals as goal

pub returns-in_err-place : goal.returns-in_err-place
returns-in_err-place g c =
    let p = err_from_is_err_and c.from_residual.result c.from_residual.ensures.1 in
    rw (p.1, p.2) (record { ok = tt; err = one_refused (widget_of c.args.self.now) c.args.index.now (λ p. position_at (text_shown c.args.self.now) p) c.in_err-place.field-0.0 c.in_err-place.ensures.err })

pub returns-clause-err : goal.returns-clause-err
returns-clause-err g c = tt

pub position-requires : goal.position-requires
position-requires g c =
    let view = c.args.self.now in
    let text : part (stretch_of c.self.inside.doc.now.cells c.limits.result) (text_of c.self.inside.doc.now.cells) ≡ text_shown view =
    store_seen view c.self.inside.doc.now (widget_value c.self.inside.widget.now) (map widget_value c.self.inside.others.now) c.limits.result (stretch_of c.self.inside.doc.now.cells c.limits.result) (text_of c.self.inside.doc.now.cells) c.self.view_is c.limits.ensures refl refl in
    omega (arith, ap length text, c.in_ok-place.ensures.within)

pub returns-clause-ok : goal.returns-clause-ok
returns-clause-ok g c =
    let view = c.args.self.now in
    let place = c.in_ok-place.place in
    let text : part (stretch_of c.self.inside.doc.now.cells c.limits.result) (text_of c.self.inside.doc.now.cells) ≡ text_shown view =
    store_seen view c.self.inside.doc.now (widget_value c.self.inside.widget.now) (map widget_value c.self.inside.others.now) c.limits.result (stretch_of c.self.inside.doc.now.cells c.limits.result) (text_of c.self.inside.doc.now.cells) c.self.view_is c.limits.ensures refl refl in
    one_given (widget_of view) c.args.index.now (λ p. position_at (text_shown view) p) place c.in_ok-place.ensures.ok
    ∙ ap (λ t. Ok (position_at t place)) (sym text) ∙ ap (λ p. Ok p) (sym c.position.ensures)
