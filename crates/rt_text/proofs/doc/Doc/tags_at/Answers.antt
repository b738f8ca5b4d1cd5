use Rattle.std.proofs.lemmas.Result.{err_from_is_err_and}
use Rattle.std.proofs.Common.{◌∙◌, ◌+◌, ap, arith, refl}
use Rattle.std.specs.Prelude.{option_map}
use Rattle.rt_stamps.specs.Words.{as_words}
use Rattle.rt_plans.specs.DocValue.{DocValue}
use Rattle.rt_plans.specs.Selected.{selected_stamps}
use Rattle.rt_plans.proofs.PlaceLaws.{length_text, text_within}
use Rattle.rt_text.specs.Owned.{widget_value}
use Rattle.rt_text.specs.Widgets.{tags_shown}
use Rattle.rt_text.proofs.LimitedTags.{place_kept}
use Rattle.rt_text.proofs.SeenLaws.{tags_found, visible_given}
use Rattle.rt_text.proofs.doc.Doc.tags_at.Goals as goal

pub returns-in_err-names : goal.returns-in_err-names
returns-in_err-names g c =
    let p = err_from_is_err_and c.from_residual.result c.from_residual.ensures.1 in
    rw (p.1, p.2) (record { ok = tt; err = c.in_err-names.ensures.fault })

pub returns-clause-err : goal.returns-clause-err
returns-clause-err g c = tt

pub cell_at-cell-requires : goal.cell_at-cell-requires
cell_at-cell-requires g c =
    let at = place_kept c.kept.result.1.now (g.S.TextStore.list c.kept.result.0.now) c.args.self.now.cells c.limits.result c.stretch.result (widget_value c.args.widget.now) c.args.place c.kept.ensures.cells c.stretch.ensures.value c.limits.ensures
    c.stretch.ensures.within c.requires in
    omega (arith, at.0, c.stretch.ensures.within)

pub overflow_add-stretch : goal.overflow_add-stretch
overflow_add-stretch g c =
    let kept = g.S.TextStore.list c.kept.result.0.now in
    let at = place_kept c.kept.result.1.now kept c.args.self.now.cells c.limits.result c.stretch.result (widget_value c.args.widget.now) c.args.place c.kept.ensures.cells c.stretch.ensures.value c.limits.ensures
    c.stretch.ensures.within c.requires in
    omega (arith, at.0, c.stretch.ensures.within, text_within kept, length_text kept, c.kept.ensures.few, c.kept.ensures.most)

pub returns-clause-ok : goal.returns-clause-ok
returns-clause-ok g c =
    let table = c.kept.result.1.now in
    let kept = g.S.TextStore.list c.kept.result.0.now in
    let own = widget_value c.args.widget.now in
    let tags = c.args.self.now.tags in
    let at = place_kept table kept c.args.self.now.cells c.limits.result c.stretch.result own c.args.place c.kept.ensures.cells c.stretch.ensures.value c.limits.ensures c.stretch.ensures.within c.requires in
    ap (option_map (tags_shown own tags)) at.1
    ∙ tags_found table kept c.args.self.now.cells (selected_stamps c.args.widget.now.selection) own tags
    (as_words c.in_ok-names.names.items) (as_words c.keep_tags_on.new.names.items) (c.stretch.result.begin + c.args.place) c.cell_at-cell.result
    c.kept.ensures.cells refl c.cell_at-cell.ensures
    (c.in_ok-names.ensures.names ∙ ap (λ (f : DocValue). f.tags) c.self.view_is) c.keep_tags_on.ensures

pub keep_tags_on-requires : goal.keep_tags_on-requires
keep_tags_on-requires g c =
    visible_given c.kept.result.1.now (g.S.TextStore.list c.kept.result.0.now) (c.stretch.result.begin + c.args.place) c.cell_at-cell.result c.kept.ensures.states c.cell_at-cell.ensures
