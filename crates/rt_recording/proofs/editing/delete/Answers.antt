use Rattle.std.proofs.Common.{◌≡◌, ◌∙◌, List, map, subst, sym}
use Rattle.rt_stamps.specs.Words.{Word, as_words}
use Rattle.rt_revert.specs.Reverting.{as_removed}
use Rattle.rt_recording.specs.Recordings.{HasStayed, came_back, span_action}
use Rattle.rt_text.specs.Index.{place_at_index}
use Rattle.rt_text.specs.Ranges.{ranges_of}
use Rattle.rt_text.specs.Widgets.{widget_of}
use Rattle.rt_undo.specs.declared.action.Kind.TheVariants.{Delete}
use Rattle.rt_undo.specs.Actions.{Removed}
use Rattle.rt_recording.specs.Edits.{counts_between, lost_between}
use Rattle.rt_recording.proofs.Actions.{edit_sound, lost_sound}
use Rattle.rt_recording.proofs.Noted.{edit_settled, edit_stays, lost_stay}
use Rattle.rt_recording.proofs.OnceTaken.{deleted_gone}
use Rattle.rt_recording.proofs.Outcomes.{grows_deleted}
use Rattle.rt_recording.proofs.editing.delete.Goals as goal

pub note-requires-clause-stays : goal.note-requires-clause-stays
note-requires-clause-stays g c = λ lost on e.
    let before = c.of-before.result in
    let view = c.args.view.now in
    let old = c.args.recorder.now in
    let mid = c.prepare_deletion.new.recorder in
    let words = as_words c.args.indices.now in
    let ranges = ranges_of (map (place_at_index (widget_of view)) words) in
    let keeps = c.in_ok-prepare_deletion.ensures.kept in
    let meant = c.in_ok-prepare_deletion.ensures.pending (sym keeps.undo ∙ on) in
    let same : lost ≡ map as_removed (lost_between view words) = cc (e, meant) in
    subst (λ (l : List (Removed (List Word))). HasStayed (came_back mid) (span_action Delete (counts_between before.site.number before.count c.delete.new.self.doc.count) l)) (sym same)
    (edit_stays Delete view old mid before.count before.site.number c.delete.new.self.doc.count (map as_removed (lost_between view words)) c.of-before.ensures.count c.of-before.ensures.site
    c.requires c.of-before.ensures.kept keeps (lost_stay view old mid ranges c.requires c.of-before.ensures.kept keeps))

pub returns-clause-settled : goal.returns-clause-settled
returns-clause-settled g c =
    let before = c.of-before.result in
    let view = c.args.view.now in
    let new = c.delete.new.self in
    let old = c.args.recorder.now in
    let words = as_words c.args.indices.now in
    let ranges = ranges_of (map (place_at_index (widget_of view)) words) in
    let keeps = c.in_ok-prepare_deletion.ensures.kept in
    edit_settled Delete (lost_between view words) view new old c.prepare_deletion.new.recorder c.note.new.recorder before.cells before.visible before.count before.site.number
    c.of-before.ensures.cells c.of-before.ensures.visible c.of-before.ensures.count c.of-before.ensures.site keeps
    (c.note.ensures.history (map as_removed (lost_between view words)) (λ on. c.in_ok-prepare_deletion.ensures.pending (sym keeps.undo ∙ on))) c.note.ensures.settings
    c.requires c.of-before.ensures.kept c.note.ensures.kept (grows_deleted view new words c.in_ok-delete.ensures.ok) c.note.ensures.moves
    (edit_sound Delete before.site.number view.doc new.doc (lost_between view words) c.of-before.ensures.site before.site.positive (lost_sound view ranges c.of-before.ensures.kept))
    (deleted_gone view new words c.of-before.ensures.kept c.in_ok-delete.ensures.ok)
