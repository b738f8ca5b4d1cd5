use Rattle.std.proofs.Common.{◌∙◌, ap}
use Rattle.rt_undo.specs.Undo.{emptied}
use Rattle.rt_recording.specs.Naming.{named_history}
use Rattle.rt_recording.specs.Recordings.{Recording}
use Rattle.rt_recording.proofs.Named.{emptied_named}
use Rattle.rt_recording.proofs.recorder.Recorder.reset.Goals as goal

pub returns-clause-history : goal.returns-clause-history
returns-clause-history c =
    ap (named_history c.self.inside.table) c.reset.ensures.history
    ∙ emptied_named c.self.inside.table c.self.inside.stacks.history
    ∙ ap (λ (v : Recording). emptied v.history) c.self.view_is
