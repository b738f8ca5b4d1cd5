use Rattle.std.proofs.Common.{◌∙◌, ap}
use Rattle.rt_undo.specs.Undo.{with_most}
use Rattle.rt_recording.specs.EditedValue.{EditedValue, edited}
use Rattle.rt_recording.proofs.Noted.{settled_most}
use Rattle.rt_peers.proofs.text.EditedText.set_max_undo.Goals as goal

pub invariant_of-self : goal.invariant_of-self
invariant_of-self c =
    let s = c.self.inside in
    settled_most s.view s.recorder c.set_max_undo.new.self c.in-Some.most c.set_max_undo.ensures c.self.invariant

pub returns-in-Some : goal.returns-in-Some
returns-in-Some c =
    let s = c.self.inside in
    rw c.in-Some.is
    (ap (edited s.view) c.set_max_undo.ensures ∙ ap (λ (text : EditedValue). record text { history = with_most c.in-Some.most text.history }) c.self.view_is)
