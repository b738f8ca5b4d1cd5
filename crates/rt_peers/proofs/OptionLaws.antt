-- Limits and new widgets leave the document and the other widgets as they are.
use Rattle.std.proofs.Common.{◌≡◌, ◌∙◌, ◌+◌, ◌<◌, ◌++◌, ℕ, List, [], ◌∷◌, None, Some, Ok, Err, Result, ap, arith, cond, false, inl, inr, length, subst, sym}
use Rattle.std.specs.Prelude.{IfErr, OnErr, OnOk, is_some}
use Rattle.std.proofs.lemmas.List.{length-append}
use Rattle.rt_stamps.specs.declared.fault.Fault.{Fault}
use Rattle.rt_stamps.specs.declared.fault.Fault.TheVariants.{WidgetExists}
use Rattle.rt_stamps.specs.Outcomes.{Refuses}
use Rattle.rt_stamps.specs.Words.{Word}
use Rattle.rt_requests.specs.declared.options.Settings.{Settings}
use Rattle.rt_requests.specs.declared.settings.WidgetSettings.{WidgetSettings}
use Rattle.rt_recording.specs.EditedValue.{EditedValue}
use Rattle.rt_text.specs.Limited.{view_limited, new_peer, with_limits, with_new_peer, with_peer}
use Rattle.rt_text.specs.Widgets.{ViewValue, widgets_of}
use Rattle.rt_lines.specs.declared.choice.Choice.{Choice}
use Rattle.rt_lines.specs.declared.limits.Limits.{Limits}
use Rattle.rt_lines.specs.Choices.{limits_chosen}
use Rattle.rt_peers.specs.Options.{choice_of, text_configured}
use Rattle.rt_peers.specs.Peers.{text_led, with_widget}
use Rattle.rt_peers.specs.PeerStep.{created, path_check, text_with_peer}
use Rattle.rt_peers.specs.SiteValue.{SiteValue, number_of_path}
use Rattle.rt_peers.specs.ViewStep.{as_outcome, one_word}
use Rattle.rt_peers.proofs.PeerLaws.{led_number, text_back}

-- WHAT A VIEW IS LEFT

abbrev view_in : Result ViewValue Fault → ViewValue → ViewValue
view_in (Ok view) none = view
view_in (Err fault) none = none

limits_leave : (view new : ViewValue) (limits : Result Limits Fault) → with_limits view limits ≡ Ok new → (view.doc ≡ new.doc) × (view.others ≡ new.others)
limits_leave view new (Ok limits) h =
    (ap (λ r. (view_in r view).doc) h, ap (λ r. (view_in r view).others) h)
limits_leave view new (Err fault) h = absurd (cc h)

pub limited_leaves : (view new : ViewValue) (start end : Choice) → view_limited view start end ≡ Ok new → (view.doc ≡ new.doc) × (view.others ≡ new.others)
limited_leaves view new start end h = limits_leave view new (limits_chosen view.doc.cells start end view.own.limits) h

peer_leaves : (view new : ViewValue) (limits : Result Limits Fault) → with_new_peer view limits ≡ Ok new → (view.doc ≡ new.doc) × (length (widgets_of new) ≡ length (widgets_of view) + 1)
peer_leaves view new (Ok limits) h = (
  ap (λ r. (view_in r view).doc) h,
  omega (arith, ap (λ r. length (view_in r view).others) h, length-append view.others (new_peer view.doc limits ∷ [])),
)
peer_leaves view new (Err fault) h = absurd (cc h)

pub one_more : (view new : ViewValue) (start end : Choice) → with_peer view start end ≡ Ok new → (view.doc ≡ new.doc) × (length (widgets_of new) ≡ length (widgets_of view) + 1)
one_more view new start end h = peer_leaves view new (limits_chosen view.doc.cells start end view.own.limits) h

-- AS MANY WIDGETS

abbrev text_in : Result EditedValue Fault → EditedValue → EditedValue
text_in (Ok text) none = text
text_in (Err fault) none = none

pub configured_is : (text new : EditedValue) (settings : Settings) (said : Result ViewValue Fault) → text_configured text settings said ≡ Ok new → said ≡ Ok new.view
configured_is text new settings (Ok view) h = ap (λ r. Ok (text_in r text).view) h
configured_is text new settings (Err fault) h = absurd (cc h)

pub text_one_more : (text new : EditedValue) (settings : WidgetSettings) → text_with_peer text settings ≡ Ok new → length (widgets_of new.view) ≡ length (widgets_of text.view) + 1
text_one_more text new settings h =
    let start = choice_of settings.start_line in
    let end = choice_of settings.end_line in
    (one_more text.view new.view start end (configured_is text new settings.shared (with_peer text.view start end) h)).1

-- ONE MORE WIDGET, which one that commands in the place of the first makes

pub there_still : {T : Type 0} (place : ℕ) (old led made : EditedValue) (settings : WidgetSettings) (result : Result T Fault) → led ≡ text_led place old
    → OnOk result (text_with_peer led settings ≡ Ok made) → OnErr result (made ≡ led) → place < length (widgets_of old.view) → place < length (widgets_of made.view)
there_still place old led made settings (Ok value) is ok unchanged there =
    let more = text_one_more led made settings ok in
    let led = ap (λ t. length (widgets_of t.view)) is ∙ led_number old.view place in
    omega (arith, more, led, there)
there_still place old led made settings (Err fault) is ok unchanged there =
    let same = ap (λ t. length (widgets_of t.view)) (unchanged ∙ is) ∙ led_number old.view place in
    omega (arith, same, there)

pub made_by_led : {T : Type 0} (place : ℕ) (old led made new : EditedValue) (settings : WidgetSettings) (result : Result T Fault) → led ≡ text_led place old → new ≡ text_led place made
    → OnOk result (text_with_peer led settings ≡ Ok made) → OnOk result (text_with_peer (text_led place old) settings ≡ Ok (text_led place new))
made_by_led place old led made new settings (Ok value) is back ok =
    let to : made ≡ text_led place new = sym (ap (text_led place) back ∙ text_back made place) in
    subst (λ (t : EditedValue). text_with_peer t settings ≡ Ok (text_led place new)) is (ok ∙ ap (λ t. Ok t) to)
made_by_led place old led made new settings (Err fault) is back ok = tt

pub refused_by_led : {T : Type 0} (place : ℕ) (old led : EditedValue) (settings : WidgetSettings) (result : Result T Fault) → led ≡ text_led place old
    → IfErr result (Refuses (text_with_peer led settings)) → IfErr result (Refuses (text_with_peer (text_led place old) settings))
refused_by_led place old led settings result is err = subst (λ (t : EditedValue). IfErr result (Refuses (text_with_peer t settings))) is err

pub unchanged_by_led : {T : Type 0} (place : ℕ) (old led made new : EditedValue) (result : Result T Fault) → led ≡ text_led place old → new ≡ text_led place made → OnErr result (made ≡ led)
    → OnErr result (new ≡ old)
unchanged_by_led place old led made new (Ok value) is back unchanged = tt
unchanged_by_led place old led made new (Err fault) is back unchanged = back ∙ ap (text_led place) (unchanged ∙ is) ∙ text_back old place

pub led_one_more : (place : ℕ) (old new : EditedValue) (settings : WidgetSettings) → text_with_peer (text_led place old) settings ≡ Ok (text_led place new)
    → length (widgets_of new.view) ≡ length (widgets_of old.view) + 1
led_one_more place old new settings said =
    let more = text_one_more (text_led place old) (text_led place new) settings said in
    let before = led_number old.view place in
    let after = led_number new.view place in
    omega (arith, more, before, after)

pub made_doc : (place : ℕ) (old new : EditedValue) (settings : WidgetSettings) → text_with_peer (text_led place old) settings ≡ Ok (text_led place new) → old.view.doc ≡ new.view.doc
made_doc place old new settings said =
    let led = text_led place old in
    let start = choice_of settings.start_line in
    let end = choice_of settings.end_line in
    (one_more led.view (text_led place new).view start end (configured_is led (text_led place new) settings.shared (with_peer led.view start end) said)).0

pub created_as : (place : ℕ) (path : Word) (state new : SiteValue) (settings : WidgetSettings) → is_some (number_of_path path state.paths) ≡ false
    → text_with_peer (text_led place state.text) settings ≡ Ok (text_led place new.text) → new.paths ≡ state.paths ++ path ∷ [] → new.held ≡ state.held
    → created place path state settings (path_check path state.paths) ≡ Ok (one_word path, new)
created_as place path state new settings free said paths held =
    let one : List Word = one_word path in
    ap (λ b. created place path state settings (cond b (Some WidgetExists) None)) free
    ∙ ap (as_outcome (λ text. (one_word path, with_widget place path state text))) said
    ∙ (λ i. Ok (one, record { paths = sym paths i; text = text_back new.text place i; held = sym held i }))

pub created_refused : (place : ℕ) (path : Word) (state : SiteValue) (settings : WidgetSettings) (fault : Fault) → is_some (number_of_path path state.paths) ≡ false
    → Refuses (text_with_peer (text_led place state.text) settings) fault → Refuses (created place path state settings (path_check path state.paths)) fault
created_refused place path state settings fault free (inl e) = inl e
created_refused place path state settings fault free (inr e) = inr (
    ap (λ b. created place path state settings (cond b (Some WidgetExists) None)) free
    ∙ ap (as_outcome (λ text. (one_word path, with_widget place path state text))) e
    )
