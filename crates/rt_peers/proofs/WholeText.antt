-- A widget without limits tells the whole text.
use Rattle.std.proofs.Common.{◌≡◌, ◌∙◌, Ok, ap}
use Rattle.std.specs.Prelude.{Result, encode_utf8_all}
use Rattle.rt_stamps.specs.declared.fault.Fault.{Fault}
use Rattle.rt_stamps.specs.Words.{Word}
use Rattle.rt_recording.specs.EditedValue.{EditedValue}
use Rattle.rt_store.specs.Cells.{EndsFinal, text_of}
use Rattle.rt_text.proofs.WholeText.{got_whole}
use Rattle.rt_peers.specs.Peers.{text_led}
use Rattle.rt_peers.specs.SiteStep.{at_widget, by_widget, step_at, widget_step}
use Rattle.rt_peers.specs.SiteValue.{SiteValue}
use Rattle.rt_peers.specs.Step.{on_view}
use Rattle.rt_peers.specs.ViewStep.{one_word, told_step}
use Rattle.rt_peers.specs.WholeText.{ShowsAll, get_all}
use Rattle.rt_peers.proofs.PeerLaws.{text_back}

pub told_whole : (path : Word) (state : SiteValue) → EndsFinal state.text.view.doc.cells → ShowsAll path state
    → step_at path state get_all ≡ Ok (one_word (encode_utf8_all (text_of state.text.view.doc.cells)), state)
told_whole path state ends shows =
    let number = shows.number in
    let text = text_led number state.text in
    let all = one_word (encode_utf8_all (text_of state.text.view.doc.cells)) in
    ap (λ number. at_widget number (λ number. widget_step path number state get_all)) shows.there
    ∙ ap (λ (got : Result Word Fault). by_widget number state (λ led. on_view text (told_step one_word text.view got)))
    (got_whole text.view ends shows.limits)
    ∙ ap (λ (text : EditedValue). Ok (all, record state { text = text })) (text_back state.text number)
