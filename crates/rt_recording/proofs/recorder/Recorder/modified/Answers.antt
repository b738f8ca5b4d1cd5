use Rattle.std.proofs.Common.{◌∙◌, ap, sym}
use Rattle.rt_undo.specs.Undo.{is_modified}
use Rattle.rt_recording.specs.Recordings.{Recording}
use Rattle.rt_recording.proofs.Named.{modified_named}
use Rattle.rt_recording.proofs.recorder.Recorder.modified.Goals as goal

pub returns : goal.returns
returns c = c.modified.ensures ∙ sym (modified_named c.self.inside.table c.self.inside.stacks.history) ∙ ap (λ (v : Recording). is_modified v.history) c.self.view_is
