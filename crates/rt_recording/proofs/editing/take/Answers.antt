use Rattle.std.proofs.Common.{sym, ◌∙◌, subst}
use Rattle.rt_text.proofs.Growing.{GrowsTo, grows_taken}
use Rattle.rt_recording.proofs.Noted.{settled_forced, settled_same}
use Rattle.rt_recording.proofs.editing.take.Goals as goal
use Rattle.rt_recording.proofs.editing.take.Goals.{then-has_changed, else-has_changed}

pub returns-after-has_changed-clause-settled : goal.returns-after-has_changed-clause-settled
returns-after-has_changed-clause-settled g c =
    let view = c.args.view.now in
    let new = c.take.new.self in
    let old = c.args.recorder.now in
    let grows : GrowsTo view new = subst (GrowsTo view) (sym c.in-Ok.ensures.taken) (grows_taken c.args.op view) in
    elim c.if-has_changed.branch [
      | then-has_changed w ↦ settled_forced view new old c.if-has_changed.recorder (w.recorder-is ∙ w.force.ensures) c.requires.settled c.of-before.ensures.kept c.has_changed.ensures.kept grows.log
      | else-has_changed w ↦ settled_same view new old c.if-has_changed.recorder w.recorder-is c.requires.settled c.of-before.ensures.kept c.has_changed.ensures.kept grows.log
    ]
