-- Requests that take no memory: a refusal is that of the outcome.
use Rattle.std.proofs.Common.{◌≡◌, ◌∙◌, ℕ, List, [], Result, Ok, Err, ap, subst, sym}
use Rattle.std.specs.Prelude.{IfErr, MatchResult}
use Rattle.rt_stamps.specs.declared.fault.Fault.{Fault}
use Rattle.rt_stamps.specs.Words.{Word}
use Rattle.rt_recording.specs.EditedValue.{EditedValue, edited}
use Rattle.rt_recording.specs.Recordings.{Recording}
use Rattle.rt_text.specs.Widgets.{ViewValue}
use Rattle.rt_peers.specs.Peers.{text_led}
use Rattle.rt_peers.specs.SiteStep.{by_leading, by_widget}
use Rattle.rt_peers.specs.SiteValue.{SiteValue}
use Rattle.rt_peers.specs.Step.{on_view}
use Rattle.rt_peers.specs.ViewStep.{Outcome, as_outcome, changed_step}

-- a change that is refused as the call is that was asked of it
pub changed_only : {S T : Type 0} (said meant : Result S Fault) (outcome : Result T Fault) (result : Result (List Word) Fault) → said ≡ meant
    → IfErr outcome (λ fault. said ≡ Err fault) → MatchResult outcome (λ _. result ≡ Ok []) (λ fault. result ≡ Err fault)
    → IfErr result (λ fault. changed_step meant ≡ Err fault)
changed_only {S} said meant (Ok done) result same err is =
    subst (λ (r : Result (List Word) Fault). IfErr r (λ fault. changed_step {S = S} meant ≡ Err fault)) (sym is) tt
changed_only {S} said meant (Err fault) result same err is =
    subst (λ (r : Result (List Word) Fault). IfErr r (λ fault. changed_step {S = S} meant ≡ Err fault)) (sym is) (ap (changed_step {S = S}) (sym same ∙ err))

-- what is made of the value that is answered is refused as that is
refused_through : {T S : Type 0} (f : T → List Word × S) (outcome : Result T Fault) (result : Result (List Word) Fault)
    → IfErr result (λ fault. outcome ≡ Err fault) → IfErr result (λ fault. as_outcome f outcome ≡ Err fault)
refused_through f outcome (Ok reply) h = tt
refused_through f outcome (Err fault) h = ap (as_outcome f) h

refused_within : {T S : Type 0} (f : T → List Word × S) (outcome : Result T Fault) (fault : Fault) → as_outcome f outcome ≡ Err fault → outcome ≡ Err fault
refused_within f (Ok value) fault h = absurd (cc h)
refused_within f (Err found) fault h = cc h

-- a request to what the widget shows, as one to the text
pub refused_view : (state : EditedValue) (view : ViewValue) (recording : Recording) → edited view recording ≡ state → (outcome : ViewValue → Outcome ViewValue)
    (result : Result (List Word) Fault) → IfErr result (λ fault. outcome view ≡ Err fault) → IfErr result (λ fault. on_view state (outcome state.view) ≡ Err fault)
refused_view state view recording e outcome result h =
    subst (λ (s : EditedValue). IfErr result (λ fault. on_view s (outcome s.view) ≡ Err fault)) e
    (refused_through (λ answer. (answer.0, record (edited view recording) { view = answer.1 })) (outcome view) result h)

-- one to the text, which the widget of a number leads meanwhile
pub refused_leading : (place : ℕ) (text led : EditedValue) (does : EditedValue → Outcome EditedValue) (result : Result (List Word) Fault)
    → led ≡ text_led place text → IfErr result (λ fault. does led ≡ Err fault) → IfErr result (λ fault. by_leading place text does ≡ Err fault)
refused_leading place text led does result l h =
    refused_through (λ answer. (answer.0, text_led place answer.1)) (does (text_led place text)) result
    (subst (λ (t : EditedValue). IfErr result (λ fault. does t ≡ Err fault)) l h)

-- as one to the site
pub refused_site : (place : ℕ) (state : SiteValue) (does : EditedValue → Outcome EditedValue) (result : Result (List Word) Fault)
    → IfErr result (λ fault. by_leading place state.text does ≡ Err fault) → IfErr result (λ fault. by_widget place state does ≡ Err fault)
refused_site place state does (Ok reply) h = tt
refused_site place state does (Err fault) h =
    let outcome = does (text_led place state.text) in
    refused_through (λ answer. (answer.0, record state { text = text_led place answer.1 })) outcome (Err fault)
    (refused_within (λ answer. (answer.0, text_led place answer.1)) outcome fault h)
