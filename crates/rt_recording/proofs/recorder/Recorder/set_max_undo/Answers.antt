use Rattle.std.proofs.Common.{◌∙◌, ap}
use Rattle.rt_undo.specs.Undo.{with_most}
use Rattle.rt_recording.specs.Naming.{named_history}
use Rattle.rt_recording.specs.Recordings.{Recording}
use Rattle.rt_recording.specs.Seen.{recording_of}
use Rattle.rt_recording.proofs.Named.{most_named}
use Rattle.rt_recording.proofs.recorder.Recorder.set_max_undo.Goals as goal

pub returns : goal.returns
returns c =
    let s = c.self.inside in
    (λ i. record (recording_of s) {
      history = (ap (named_history s.table) c.set_max.ensures.history ∙ most_named s.table c.args.most s.stacks.history) i;
      moves = c.set_max.ensures.others.0 i;
      ready = c.set_max.ensures.others.1 i;
    })
    ∙ ap (λ (v : Recording). record v { history = with_most c.args.most v.history }) c.self.view_is
