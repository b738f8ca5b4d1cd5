use Rattle.std.proofs.Common.{◌≡◌, ◌∙◌, ◌≤◌, Ok, ap, length, map, subst}
use Rattle.std.specs.Prelude.{IfErr, IfOk}
use Rattle.rt_index.specs.Index.{index_of}
use Rattle.rt_index.specs.Widget.{IndexedWidget}
use Rattle.rt_stamps.specs.Outcomes.{Refuses}
use Rattle.rt_store.specs.Shown.{shown}
use Rattle.rt_text.specs.Owned.{widget_value}
use Rattle.rt_text.specs.Widgets.{widget_of}
use Rattle.rt_text.proofs.SeenLaws.{ground_shown}
use Rattle.rt_text.proofs.view_ref.ViewRef.place.Goals as goal

pub returns-clause-ok : goal.returns-clause-ok
returns-clause-ok g c =
    let kept = g.S.TextStore.list c.ground.result.store.now in
    let same = ground_shown (record { doc = c.self.inside.doc.now; own = widget_value c.self.inside.widget.now; others = map widget_value c.self.inside.others.now }) c.ground.result.stretch (map (shown c.ground.result.states.now) kept) c.ground.result.marks.now c.ground.result.tags.now.names
    (widget_value c.ground.result.widget.now) c.ground.ensures.stretch c.ground.ensures.cells c.ground.ensures.marks c.ground.ensures.tags c.ground.ensures.own c.ground.ensures.names ∙ ap widget_of c.self.view_is in
    subst (λ (w : IndexedWidget). IfOk c.place_of_index.result (λ place. index_of w c.args.index.now ≡ Ok place)) same c.place_of_index.ensures.ok

pub returns-clause-within : goal.returns-clause-within
returns-clause-within g c =
    let kept = g.S.TextStore.list c.ground.result.store.now in
    let same = ground_shown (record { doc = c.self.inside.doc.now; own = widget_value c.self.inside.widget.now; others = map widget_value c.self.inside.others.now }) c.ground.result.stretch (map (shown c.ground.result.states.now) kept) c.ground.result.marks.now c.ground.result.tags.now.names
    (widget_value c.ground.result.widget.now) c.ground.ensures.stretch c.ground.ensures.cells c.ground.ensures.marks c.ground.ensures.tags c.ground.ensures.own c.ground.ensures.names ∙ ap widget_of c.self.view_is in
    subst (λ (w : IndexedWidget). IfOk c.place_of_index.result (λ place. place ≤ length w.text)) same c.place_of_index.ensures.within

pub returns-clause-err : goal.returns-clause-err
returns-clause-err g c =
    let kept = g.S.TextStore.list c.ground.result.store.now in
    let same = ground_shown (record { doc = c.self.inside.doc.now; own = widget_value c.self.inside.widget.now; others = map widget_value c.self.inside.others.now }) c.ground.result.stretch (map (shown c.ground.result.states.now) kept) c.ground.result.marks.now c.ground.result.tags.now.names
    (widget_value c.ground.result.widget.now) c.ground.ensures.stretch c.ground.ensures.cells c.ground.ensures.marks c.ground.ensures.tags c.ground.ensures.own c.ground.ensures.names ∙ ap widget_of c.self.view_is in
    subst (λ (w : IndexedWidget). IfErr c.place_of_index.result (Refuses (index_of w c.args.index.now))) same c.place_of_index.ensures.err
