use Rattle.std.proofs.Common.{◌≡◌, suc, ◌∙◌, ◌+◌, [], ap, arith, subst, sym, List}
use Rattle.std.specs.Prelude.{IfSome, nat_eq, option_map, slice_get}
use Rattle.rt_stamps.specs.declared.stamp.Stamp.{Stamp}
use Rattle.rt_store.specs.declared.cell.Cell.{Cell}
use Rattle.rt_store.specs.Cells.{visible_of}
use Rattle.rt_store.specs.Shown.{shown}
use Rattle.rt_tags.specs.States.{IsState}
use Rattle.rt_plans.specs.Removals.{is_covered}
use Rattle.rt_plans.proofs.PlaceLaws.{length_text, text_within}
use Rattle.rt_plans.proofs.RestLaws.{left_given}
use Rattle.rt_lines.specs.declared.stretch.Stretch.{Stretch}
use Rattle.rt_lines.specs.Stretches.{stretch_of}
use Rattle.rt_text.specs.Neighbours.{are_sides_shown, limit_left, pieces_text}
use Rattle.rt_text.specs.Owned.{widget_value}
use Rattle.rt_text.specs.Widgets.{WidgetValue}
use Rattle.rt_text.proofs.InsertedDocument.{drafts_are, new_is}
use Rattle.rt_text.proofs.InsertedSides.{at_visible, element_is, found, given_if, given_not, place_is}
use Rattle.rt_text.proofs.LimitedDeletions.{stretch_kept}
use Rattle.rt_text.proofs.PutLaws.{visible_same}
use Rattle.rt_text.proofs.doc.Doc.neighbours.Goals as goal

pub left_of-behind-requires : goal.left_of-behind-requires
left_of-behind-requires g c =
    let doc = c.args.self.now in
    let own = widget_value c.args.widget.now in
    let others : List WidgetValue = [] in
    let table = c.kept.result.1.now in
    let kept = g.S.TextStore.list c.kept.result.0.now in
    let place = c.args.place in
    let is = place_is doc own others place c.kept.ensures.history c.kept.ensures.document c.kept.ensures.site c.requires.place in
    let same : c.args.stretch ≡ stretch_of doc.cells own.limits = c.requires.stretch in
    omega (arith, ap (λ (x : Stretch). x.begin + place) same, at_visible doc own others place is, visible_same table kept doc.cells c.kept.ensures.cells)

pub shown_at-right-requires : goal.shown_at-right-requires
shown_at-right-requires g c =
    let doc = c.args.self.now in
    let own = widget_value c.args.widget.now in
    let others : List WidgetValue = [] in
    let table = c.kept.result.1.now in
    let kept = g.S.TextStore.list c.kept.result.0.now in
    let place = c.args.place in
    let is = place_is doc own others place c.kept.ensures.history c.kept.ensures.document c.kept.ensures.site c.requires.place in
    let same : c.args.stretch ≡ stretch_of doc.cells own.limits = c.requires.stretch in
    omega (arith, ap (λ (x : Stretch). x.begin + place) same, at_visible doc own others place is, visible_same table kept doc.cells c.kept.ensures.cells)

pub overflow_add-at : goal.overflow_add-at
overflow_add-at g c =
    let doc = c.args.self.now in
    let own = widget_value c.args.widget.now in
    let others : List WidgetValue = [] in
    let table = c.kept.result.1.now in
    let kept = g.S.TextStore.list c.kept.result.0.now in
    let place = c.args.place in
    let is = place_is doc own others place c.kept.ensures.history c.kept.ensures.document c.kept.ensures.site c.requires.place in
    let same : c.args.stretch ≡ stretch_of doc.cells own.limits = c.requires.stretch in
    omega (arith, ap (λ (x : Stretch). x.begin + place) same, at_visible doc own others place is, visible_same table kept doc.cells c.kept.ensures.cells, text_within kept, length_text kept, c.kept.ensures.few, c.kept.ensures.most)

pub returns-clause-left : goal.returns-clause-left
returns-clause-left g c =
    let table = c.kept.result.1.now in
    let kept = g.S.TextStore.list c.kept.result.0.now in
    let P : Cell _ → Type 0 = λ cell. IsState table cell.state in
    given_not P (nat_eq c.args.place 0) c.left_of-behind.result c.shown_before-left.result c.shown_before-left.ensures
    (subst (λ o. IfSome o P) (sym c.left_of-behind.ensures) (left_given table kept (c.args.stretch.begin + c.args.place) c.kept.ensures.states))

pub returns-clause-right : goal.returns-clause-right
returns-clause-right g c =
    let table = c.kept.result.1.now in
    let kept = g.S.TextStore.list c.kept.result.0.now in
    let limits = c.limits.result in
    let at = c.args.stretch.begin + c.args.place in
    given_if (λ cell. IsState table cell.state)
    (are_sides_shown (limit_left (is_covered []) kept limits.start) (limit_left (is_covered []) kept limits.end) at (pieces_text c.args.pieces.now)) (slice_get (visible_of kept) at) c.shown_at-right.result c.shown_at-right.ensures (left_given table kept (suc at) c.kept.ensures.states)

pub returns-clause-after : goal.returns-clause-after
returns-clause-after g c =
    subst (λ (s : Stamp). IfSome c.shown_before-left.result (λ cell. s ≡ cell.stamp)) (sym c.stamp_or_root-after.ensures)
    (element_is c.shown_before-left.result c.left_of-behind.result c.args.place c.shown_before-left.ensures)

pub returns-clause-drafts : goal.returns-clause-drafts
returns-clause-drafts g c = λ others rest.
    let doc = c.args.self.now in
    let own = widget_value c.args.widget.now in
    let place = c.args.place in
    let pieces = c.args.pieces.now in
    let table = c.kept.result.1.now in
    let kept = g.S.TextStore.list c.kept.result.0.now in
    let is = place_is doc own others place c.kept.ensures.history c.kept.ensures.document c.kept.ensures.site c.requires.place in
    let limits = c.limits.ensures in
    let stretch = c.requires.stretch ∙ sym (stretch_kept table kept doc.cells own.limits c.kept.ensures.cells) ∙ ap (stretch_of kept) (sym limits) in
    drafts_are doc own others place pieces rest c.stamp_or_root-after.result (option_map (shown table) c.shown_before-left.result) (option_map (shown table) c.shown_at-right.result)
    (found table kept doc own others place pieces c.limits.result c.args.stretch c.left_of-behind.result c.shown_before-left.result c.shown_at-right.result c.stamp_or_root-after.result c.kept.ensures.cells is
    (c.requires.order.start, c.requires.order.end) limits stretch c.left_of-behind.ensures c.shown_before-left.ensures c.shown_at-right.ensures c.stamp_or_root-after.ensures)

pub returns-clause-comes : goal.returns-clause-comes
returns-clause-comes g c = λ others rest.
    let doc = c.args.self.now in
    let own = widget_value c.args.widget.now in
    let place = c.args.place in
    let pieces = c.args.pieces.now in
    let table = c.kept.result.1.now in
    let kept = g.S.TextStore.list c.kept.result.0.now in
    let is = place_is doc own others place c.kept.ensures.history c.kept.ensures.document c.kept.ensures.site c.requires.place in
    let limits = c.limits.ensures in
    let stretch = c.requires.stretch ∙ sym (stretch_kept table kept doc.cells own.limits c.kept.ensures.cells) ∙ ap (stretch_of kept) (sym limits) in
    new_is doc own others place pieces rest c.stamp_or_root-after.result (option_map (shown table) c.shown_before-left.result) (option_map (shown table) c.shown_at-right.result)
    (found table kept doc own others place pieces c.limits.result c.args.stretch c.left_of-behind.result c.shown_before-left.result c.shown_at-right.result c.stamp_or_root-after.result c.kept.ensures.cells is
    (c.requires.order.start, c.requires.order.end) limits stretch c.left_of-behind.ensures c.shown_before-left.ensures c.shown_at-right.ensures c.stamp_or_root-after.ensures)
