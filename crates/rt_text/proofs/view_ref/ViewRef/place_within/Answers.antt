use Rattle.std.proofs.Common.{◌≡◌, ◌∙◌, Ok, ap, map, subst}
use Rattle.rt_index.specs.Index.{index_of}
use Rattle.rt_index.specs.Widget.{IndexedWidget}
use Rattle.rt_stamps.specs.Outcomes.{Refuses}
use Rattle.rt_store.specs.Shown.{shown}
use Rattle.rt_text.specs.Owned.{widget_value}
use Rattle.rt_text.specs.Widgets.{stretch_by, widget_of}
use Rattle.rt_text.proofs.SeenLaws.{ground_shown}
use Rattle.std.proofs.lemmas.Result.{err_from_is_err_and}
use Rattle.rt_text.proofs.view_ref.ViewRef.place_within.Goals as goal

pub returns-clause-ok : goal.returns-clause-ok
returns-clause-ok g c =
    let kept = g.S.TextStore.list c.ground-ground.result.store.now in
    let same = ground_shown (record { doc = c.self.inside.doc.now; own = widget_value c.self.inside.widget.now; others = map widget_value c.self.inside.others.now }) c.ground-ground.result.stretch (map (shown c.ground-ground.result.states.now) kept) c.ground-ground.result.marks.now c.ground-ground.result.tags.now.names
    (widget_value c.ground-ground.result.widget.now) c.ground-ground.ensures.stretch c.ground-ground.ensures.cells c.ground-ground.ensures.marks c.ground-ground.ensures.tags c.ground-ground.ensures.own c.ground-ground.ensures.names ∙ ap widget_of c.self.view_is in
    subst (λ (w : IndexedWidget). index_of w c.args.index.now ≡ Ok c.in_ok-place.place) same c.in_ok-place.ensures.ok

pub returns-clause-stretch : goal.returns-clause-stretch
returns-clause-stretch g c = c.ground-ground.ensures.stretch ∙ ap stretch_by c.self.view_is

pub returns-in_err-place : goal.returns-in_err-place
returns-in_err-place g c =
    let kept = g.S.TextStore.list c.ground-ground.result.store.now in
    let same = ground_shown (record { doc = c.self.inside.doc.now; own = widget_value c.self.inside.widget.now; others = map widget_value c.self.inside.others.now }) c.ground-ground.result.stretch (map (shown c.ground-ground.result.states.now) kept) c.ground-ground.result.marks.now c.ground-ground.result.tags.now.names
    (widget_value c.ground-ground.result.widget.now) c.ground-ground.ensures.stretch c.ground-ground.ensures.cells c.ground-ground.ensures.marks c.ground-ground.ensures.tags c.ground-ground.ensures.own c.ground-ground.ensures.names ∙ ap widget_of c.self.view_is in
    let p = err_from_is_err_and c.from_residual.result c.from_residual.ensures.1 in
    rw (p.1, p.2) (record {
      ok = tt;
      stretch = tt;
      some = tt;
      within = tt;
      err = subst (λ (w : IndexedWidget). Refuses (index_of w c.args.index.now) c.in_err-place.field-0.0) same c.in_err-place.ensures.err;
    })
