use Rattle.std.proofs.Common.{◌≡◌, ◌∙◌, ap, if◌then◌else◌}
use Rattle.std.proofs.lemmas.Result.{on_ok_weaker}
use Rattle.rt_undo.specs.Undo.{forced_on, unmodified}
use Rattle.rt_recording.specs.Naming.{named_history}
use Rattle.rt_recording.specs.Recordings.{Recording}
use Rattle.rt_recording.specs.Seen.{recording_of}
use Rattle.rt_recording.proofs.Named.{set_named}
use Rattle.rt_recording.proofs.recorder.Recorder.set_modified.Goals as goal

pub returns-clause-ok : goal.returns-clause-ok
returns-clause-ok c =
    let s = c.self.inside in
    let on = c.args.on in
    let h = s.stacks.history in
    on_ok_weaker
    {P = c.set_modified.new.self.history ≡ (if on then forced_on h else unmodified h)}
    {Q = recording_of (record s { stacks = c.set_modified.new.self }) ≡ record c.args.self.now { history = if on then forced_on c.args.self.now.history else unmodified c.args.self.now.history }}
    c.set_modified.result
    (λ e. (λ i. record (recording_of s) {
      history = (ap (named_history s.table) e ∙ set_named s.table on h) i;
      moves = c.set_modified.ensures.others.0 i;
      ready = c.set_modified.ensures.others.1 i;
    })
    ∙ ap (λ (v : Recording). record v { history = if on then forced_on v.history else unmodified v.history }) c.self.view_is)
    c.set_modified.ensures.ok
