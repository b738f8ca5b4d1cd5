use Rattle.std.proofs.Common.{◌≡◌, ◌∙◌, ◌⊎◌, None, Some, ap, map, subst}
use Rattle.std.specs.Prelude.{IfErr, IfOk}
use Rattle.rt_index.specs.Widget.{IndexedWidget}
use Rattle.rt_stamps.specs.declared.fault.Fault.TheVariants.{NoMemory}
use Rattle.rt_stamps.specs.Outcomes.{first_of}
use Rattle.rt_stamps.specs.Words.{as_words}
use Rattle.rt_store.specs.Shown.{shown}
use Rattle.rt_text.specs.Owned.{widget_value}
use Rattle.rt_text.specs.Index.{index_check, place_at_index}
use Rattle.rt_text.specs.Ranges.{ranges_of}
use Rattle.rt_text.specs.Widgets.{widget_of}
use Rattle.rt_text.proofs.SeenLaws.{ground_shown}
use Rattle.rt_text.proofs.view_ref.ViewRef.ranges.Goals as goal

pub returns-clause-ok : goal.returns-clause-ok
returns-clause-ok g c =
    let kept = g.S.TextStore.list c.ground.result.store.now in
    let same = ground_shown (record { doc = c.self.inside.doc.now; own = widget_value c.self.inside.widget.now; others = map widget_value c.self.inside.others.now }) c.ground.result.stretch (map (shown c.ground.result.states.now) kept) c.ground.result.marks.now c.ground.result.tags.now.names
    (widget_value c.ground.result.widget.now) c.ground.ensures.stretch c.ground.ensures.cells c.ground.ensures.marks c.ground.ensures.tags c.ground.ensures.own c.ground.ensures.names ∙ ap widget_of c.self.view_is in
    subst (λ (w : IndexedWidget). IfOk c.ranges_at.result (λ ranges. ranges.items ≡ ranges_of (map (place_at_index w) (as_words c.args.indices.now)))) same c.ranges_at.ensures.ok

pub returns-clause-checked : goal.returns-clause-checked
returns-clause-checked g c =
    let kept = g.S.TextStore.list c.ground.result.store.now in
    let same = ground_shown (record { doc = c.self.inside.doc.now; own = widget_value c.self.inside.widget.now; others = map widget_value c.self.inside.others.now }) c.ground.result.stretch (map (shown c.ground.result.states.now) kept) c.ground.result.marks.now c.ground.result.tags.now.names
    (widget_value c.ground.result.widget.now) c.ground.ensures.stretch c.ground.ensures.cells c.ground.ensures.marks c.ground.ensures.tags c.ground.ensures.own c.ground.ensures.names ∙ ap widget_of c.self.view_is in
    subst (λ (w : IndexedWidget). IfOk c.ranges_at.result (λ ranges. first_of (map (index_check w) (as_words c.args.indices.now)) ≡ None)) same c.ranges_at.ensures.checked

pub returns-clause-err : goal.returns-clause-err
returns-clause-err g c =
    let kept = g.S.TextStore.list c.ground.result.store.now in
    let same = ground_shown (record { doc = c.self.inside.doc.now; own = widget_value c.self.inside.widget.now; others = map widget_value c.self.inside.others.now }) c.ground.result.stretch (map (shown c.ground.result.states.now) kept) c.ground.result.marks.now c.ground.result.tags.now.names
    (widget_value c.ground.result.widget.now) c.ground.ensures.stretch c.ground.ensures.cells c.ground.ensures.marks c.ground.ensures.tags c.ground.ensures.own c.ground.ensures.names ∙ ap widget_of c.self.view_is in
    subst (λ (w : IndexedWidget). IfErr c.ranges_at.result (λ fault. (fault ≡ NoMemory) ⊎ (first_of (map (index_check w) (as_words c.args.indices.now)) ≡ Some fault))) same c.ranges_at.ensures.err
