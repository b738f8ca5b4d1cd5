use Rattle.std.proofs.Common.{◌≡◌, ◌∙◌, ◌∷◌, [], List, map, subst, sym}
use Rattle.rt_stamps.specs.Words.{Word}
use Rattle.rt_plans.specs.declared.range.Range.{Range}
use Rattle.rt_revert.specs.Reverting.{as_removed}
use Rattle.rt_recording.specs.Recordings.{HasStayed, came_back, span_action}
use Rattle.rt_text.specs.Commands.{view_replaced}
use Rattle.rt_text.specs.Index.{place_at_index}
use Rattle.rt_text.specs.Widgets.{widget_of}
use Rattle.rt_undo.specs.declared.action.Kind.TheVariants.{Replace}
use Rattle.rt_undo.specs.Actions.{Removed}
use Rattle.rt_recording.specs.Edits.{counts_between, lost_from}
use Rattle.rt_recording.proofs.Actions.{edit_sound, lost_sound}
use Rattle.rt_recording.proofs.Noted.{edit_done, edit_settled, edit_stays, lost_stay}
use Rattle.rt_recording.proofs.OnceTaken.{replaced_gone}
use Rattle.rt_recording.proofs.Outcomes.{both_indices, grows_replaced}
use Rattle.rt_recording.proofs.editing.replace.Goals as goal

pub note-requires-clause-prepared : goal.note-requires-clause-prepared
note-requires-clause-prepared g c = λ on.
    let view = c.args.view.now in
    let keeps = c.in_ok-prepare_replacement.ensures.kept in
    let indices = both_indices view c.replace.new.self c.args.from.now c.args.to.now c.args.pieces.now c.args.rest.now c.in_ok-replace.ensures.ok in
    (map as_removed (lost_from view c.args.from.now c.args.to.now), c.in_ok-prepare_replacement.ensures.pending (sym keeps.undo ∙ on) indices.0 indices.1)

pub note-requires-clause-stays : goal.note-requires-clause-stays
note-requires-clause-stays g c = λ lost on e.
    let before = c.of-before.result in
    let view = c.args.view.now in
    let old = c.args.recorder.now in
    let mid = c.prepare_replacement.new.recorder in
    let new = c.replace.new.self in
    let from = c.args.from.now in
    let to = c.args.to.now in
    let range : Range = record { from = place_at_index (widget_of view) from; to = place_at_index (widget_of view) to } in
    let keeps = c.in_ok-prepare_replacement.ensures.kept in
    let indices = both_indices view new from to c.args.pieces.now c.args.rest.now c.in_ok-replace.ensures.ok in
    let meant = c.in_ok-prepare_replacement.ensures.pending (sym keeps.undo ∙ on) indices.0 indices.1 in
    let same : lost ≡ map as_removed (lost_from view from to) = cc (e, meant) in
    subst (λ (l : List (Removed (List Word))). HasStayed (came_back mid) (span_action Replace (counts_between before.site.number before.count new.doc.count) l)) (sym same)
    (edit_stays Replace view old mid before.count before.site.number new.doc.count (map as_removed (lost_from view from to)) c.of-before.ensures.count c.of-before.ensures.site
    c.requires c.of-before.ensures.kept keeps (lost_stay view old mid (range ∷ []) c.requires c.of-before.ensures.kept keeps))

pub returns-clause-ok : goal.returns-clause-ok
returns-clause-ok g c =
    let before = c.of-before.result in
    let view = c.args.view.now in
    let new = c.replace.new.self in
    let from = c.args.from.now in
    let to = c.args.to.now in
    let keeps = c.in_ok-prepare_replacement.ensures.kept in
    let indices = both_indices view new from to c.args.pieces.now c.args.rest.now c.in_ok-replace.ensures.ok in
    edit_done Replace (lost_from view from to) view new c.args.recorder.now c.prepare_replacement.new.recorder c.note.new.recorder before.cells before.visible before.count before.site.number
    c.of-before.ensures.cells c.of-before.ensures.visible c.of-before.ensures.count c.of-before.ensures.site keeps
    (c.note.ensures.history (map as_removed (lost_from view from to)) (λ on. c.in_ok-prepare_replacement.ensures.pending (sym keeps.undo ∙ on) indices.0 indices.1)) c.note.ensures.settings
    (view_replaced view from to c.args.pieces.now c.args.rest.now) c.in_ok-replace.ensures.ok

pub returns-clause-settled : goal.returns-clause-settled
returns-clause-settled g c =
    let before = c.of-before.result in
    let view = c.args.view.now in
    let new = c.replace.new.self in
    let old = c.args.recorder.now in
    let from = c.args.from.now in
    let to = c.args.to.now in
    let range : Range = record { from = place_at_index (widget_of view) from; to = place_at_index (widget_of view) to } in
    let keeps = c.in_ok-prepare_replacement.ensures.kept in
    let indices = both_indices view new from to c.args.pieces.now c.args.rest.now c.in_ok-replace.ensures.ok in
    edit_settled Replace (lost_from view from to) view new old c.prepare_replacement.new.recorder c.note.new.recorder before.cells before.visible before.count before.site.number
    c.of-before.ensures.cells c.of-before.ensures.visible c.of-before.ensures.count c.of-before.ensures.site keeps
    (c.note.ensures.history (map as_removed (lost_from view from to)) (λ on. c.in_ok-prepare_replacement.ensures.pending (sym keeps.undo ∙ on) indices.0 indices.1)) c.note.ensures.settings
    c.requires c.of-before.ensures.kept c.note.ensures.kept (grows_replaced view new from to c.args.pieces.now c.args.rest.now c.in_ok-replace.ensures.ok) c.note.ensures.moves
    (edit_sound Replace before.site.number view.doc new.doc (lost_from view from to) c.of-before.ensures.site before.site.positive (lost_sound view (range ∷ []) c.of-before.ensures.kept))
    (replaced_gone view new from to c.args.pieces.now c.args.rest.now c.of-before.ensures.kept c.note.ensures.kept c.in_ok-replace.ensures.ok)
