use Rattle.std.proofs.Common.{◌≡◌, ◌∙◌, [], List, subst, sym}
use Rattle.rt_stamps.specs.Words.{Word}
use Rattle.rt_recording.specs.Recordings.{HasStayed, came_back, span_action}
use Rattle.rt_undo.specs.declared.action.Kind.TheVariants.{Insert}
use Rattle.rt_undo.specs.Actions.{Removed}
use Rattle.rt_recording.specs.Edits.{counts_between}
use Rattle.rt_recording.proofs.Actions.{edit_sound}
use Rattle.rt_recording.proofs.Noted.{edit_settled, edit_stays}
use Rattle.rt_recording.proofs.OnceTaken.{none_lost}
use Rattle.rt_recording.proofs.Outcomes.{grows_inserted}
use Rattle.rt_recording.proofs.editing.insert.Goals as goal

pub note-requires-clause-stays : goal.note-requires-clause-stays
note-requires-clause-stays g c = λ lost on e.
    let before = c.of-before.result in
    let old = c.args.recorder.now in
    let mid = c.prepare_insertion.new.recorder in
    let keeps = c.in_ok-prepare_insertion.ensures.kept in
    let meant = c.in_ok-prepare_insertion.ensures.pending (sym keeps.undo ∙ on) in
    let none : lost ≡ [] = cc (e, meant) in
    subst (λ (l : List (Removed (List Word))). HasStayed (came_back mid) (span_action Insert (counts_between before.site.number before.count c.insert.new.self.doc.count) l)) (sym none)
    (edit_stays Insert c.args.view.now old mid before.count before.site.number c.insert.new.self.doc.count [] c.of-before.ensures.count c.of-before.ensures.site c.requires c.of-before.ensures.kept keeps tt)

pub returns-clause-settled : goal.returns-clause-settled
returns-clause-settled g c =
    let before = c.of-before.result in
    let view = c.args.view.now in
    let new = c.insert.new.self in
    let old = c.args.recorder.now in
    let keeps = c.in_ok-prepare_insertion.ensures.kept in
    edit_settled Insert [] view new old c.prepare_insertion.new.recorder c.note.new.recorder before.cells before.visible before.count before.site.number
    c.of-before.ensures.cells c.of-before.ensures.visible c.of-before.ensures.count c.of-before.ensures.site keeps
    (c.note.ensures.history [] (λ on. c.in_ok-prepare_insertion.ensures.pending (sym keeps.undo ∙ on))) c.note.ensures.settings
    c.requires c.of-before.ensures.kept c.note.ensures.kept (grows_inserted view new c.args.index.now c.args.pieces.now c.args.rest.now c.in_ok-insert.ensures.ok) c.note.ensures.moves
    (edit_sound Insert before.site.number view.doc new.doc [] c.of-before.ensures.site before.site.positive tt)
    (none_lost view.doc.cells new.doc.cells)
