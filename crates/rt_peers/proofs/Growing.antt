-- What is so of a settled site is so where another of its widgets commands, one goes, or marks and tags are asked for.
use Rattle.std.proofs.Common.{◌≡◌, ℕ, arith, true, List, Ok, Err, Result, refl, subst, sym}
use Rattle.rt_stamps.specs.declared.fault.Fault.{Fault}
use Rattle.rt_stamps.specs.Outcomes.{Answers}
use Rattle.rt_stamps.specs.Words.{Word}
use Rattle.rt_ops.specs.Operations.{Operation}
use Rattle.rt_store.specs.Shown.{TaggedCell}
use Rattle.rt_plans.specs.DocValue.{DocValue}
use Rattle.rt_undo.specs.Undo.{UndoHistory, no_history}
use Rattle.rt_requests.specs.declared.request.MarkRequest.{MarkRequest}
use Rattle.rt_requests.specs.declared.request.TagRequest.{TagRequest}
use Rattle.rt_text.specs.Widgets.{ViewValue}
use Rattle.rt_recording.specs.Recordings.{Recording}
use Rattle.rt_recording.specs.Settled.{AreGoneOnce, IsSettled, removed_in_history, is_gone_cell}
use Rattle.rt_recording.specs.Noting.{IsOfLog}
use Rattle.rt_text.proofs.Growing.{Grows, grows_drafts}
use Rattle.rt_recording.proofs.Noted.{settled_same}
use Rattle.rt_peers.specs.Peers.{view_led, view_without}
use Rattle.rt_peers.specs.ViewStep.{Outcome, mark_step, tag_step}
use Rattle.rt_peers.proofs.Staying.{Steps, mark_stays, tag_stays}

-- a log that gains operations grows
steps_grow : (view new : ViewValue) → Steps view new → Grows view.doc.log new.doc.log
steps_grow view new steps = subst (λ (log : List Operation). Grows view.doc.log log) (sym steps.gains.log) (grows_drafts view.doc.site steps.gains.drafts view.doc.log)

pub mark_grows : (view new : ViewValue) (request : MarkRequest) (words : List Word) → mark_step view request ≡ Ok (words, new) → Grows view.doc.log new.doc.log
mark_grows view new request words h = steps_grow view new (mark_stays view new request words h)

pub tag_grows : (view new : ViewValue) (request : TagRequest) (words : List Word) → tag_step view request ≡ Ok (words, new) → Grows view.doc.log new.doc.log
tag_grows view new request words h = steps_grow view new (tag_stays view new request words h)

-- SETTLED SITES

-- where nothing was done nobody was taken away
pub none_taken : (cells : List TaggedCell) (h : UndoHistory (List Word)) → h ≡ no_history → AreGoneOnce cells (removed_in_history h)
none_taken cells h e = subst (λ (x : UndoHistory (List Word)). AreGoneOnce cells (removed_in_history x)) (sym e) (λ s. omega arith)

-- a site stays settled where what its widget shows is changed so
pub view_settled : (view new : ViewValue) (recording : Recording) (outcome : Outcome ViewValue) (result : Result (List Word) Fault) → Answers outcome view result new
    → ((words : List Word) → outcome ≡ Ok (words, new) → Grows view.doc.log new.doc.log) → IsSettled view recording → IsOfLog view.doc → IsOfLog new.doc → IsSettled new recording
view_settled view new recording outcome (Ok words) h grows settled kept same = settled_same view new recording recording refl settled kept same (grows words h)
view_settled view new recording outcome (Err fault) h grows settled kept same = subst (λ (v : ViewValue). IsSettled v recording) (sym h.0) settled

-- what is settled stays so where the document does
pub settled_with : (view new : ViewValue) (recording : Recording) → view.doc ≡ new.doc → IsSettled view recording → IsSettled new recording
settled_with view new recording same h = record {
  gone = λ stamp back. subst (λ (d : DocValue). is_gone_cell d.cells stamp ≡ true) same (h.gone stamp back);
  taken = subst (λ (d : DocValue). AreGoneOnce d.cells (removed_in_history recording.history)) same h.taken;
  closed = h.closed;
  current = h.current;
  undone = h.undone;
}

pub settled_led : (view new : ViewValue) (place : ℕ) (recording : Recording) → new ≡ view_led place view → IsSettled view recording → IsSettled new recording
settled_led view new place recording e h = subst (λ (v : ViewValue). IsSettled v recording) (sym e) (settled_with view (view_led place view) recording refl h)

pub settled_without : (view new : ViewValue) (place : ℕ) (recording : Recording) → new ≡ view_without place view → IsSettled view recording → IsSettled new recording
settled_without view new place recording e h = subst (λ (v : ViewValue). IsSettled v recording) (sym e) (settled_with view (view_without place view) recording refl h)
