use Rattle.std.proofs.Common.{◌∙◌, Some, ap, sym}
use Rattle.std.specs.Prelude.{option_map}
use Rattle.rt_tags.specs.States.{state_at}
use Rattle.rt_lines.specs.Stretches.{seen_place}
use Rattle.rt_text.specs.Cursors.{place_of_stamp}
use Rattle.rt_text.specs.Widgets.{ViewValue}
use Rattle.rt_text.proofs.CursorLaws.{place_there}
use Rattle.rt_text.proofs.view_ref.ViewRef.place_of_stamp.Goals as goal

pub returns-in_err-place : goal.returns-in_err-place
returns-in_err-place g c =
    let kept = g.S.TextStore.list c.kept.result.0.now in
    c.from_residual.ensures
    ∙ ap (option_map (seen_place c.stretch-stretch.result)) (sym c.in_err-place.was ∙ c.place_of.ensures)
    ∙ place_there (state_at c.kept.result.1.now) kept c.self.inside.doc.now.cells c.limits.result c.stretch-stretch.result c.kept.ensures.cells c.stretch-stretch.ensures.value c.args.stamp
    ∙ ap (λ l. place_of_stamp l c.args.stamp c.self.inside.doc.now.cells) c.limits.ensures ∙ ap (λ (v : ViewValue). place_of_stamp v.own.limits c.args.stamp v.doc.cells) c.self.view_is

pub returns : goal.returns
returns g c =
    let kept = g.S.TextStore.list c.kept.result.0.now in
    ap Some c.place.ensures.value
    ∙ ap (option_map (seen_place c.stretch-stretch.result)) (sym c.in_ok-place.was ∙ c.place_of.ensures)
    ∙ place_there (state_at c.kept.result.1.now) kept c.self.inside.doc.now.cells c.limits.result c.stretch-stretch.result c.kept.ensures.cells c.stretch-stretch.ensures.value c.args.stamp
    ∙ ap (λ l. place_of_stamp l c.args.stamp c.self.inside.doc.now.cells) c.limits.ensures ∙ ap (λ (v : ViewValue). place_of_stamp v.own.limits c.args.stamp v.doc.cells) c.self.view_is
