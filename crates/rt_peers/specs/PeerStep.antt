-- What is asked of the widgets of a site by a command of one of them (Tk text manual, "PEER WIDGETS"), and by the line `destroy PATH`
-- (Tk's command `destroy`): the reply and the site after it, or why it is refused.
use Rattle.std.specs.Prelude.{◌≡◌, ℕ, not, nat_lt, List, [], filter, length, Option, Some, None, Result, Ok, Err, IfErr, IfOk, OnErr, OnOk, if◌then◌else◌}
use Rattle.std.specs.Str.{bytes_eq}
use Rattle.rt_stamps.specs.declared.fault.Fault.{Fault}
use Rattle.rt_stamps.specs.declared.fault.Fault.TheVariants.{LastWidget, NoWidget, WidgetExists}
use Rattle.rt_stamps.specs.Outcomes.{unless}
use Rattle.rt_stamps.specs.Words.{Word}
use Rattle.rt_requests.specs.declared.peers.PeerRequest.{PeerRequest}
use Rattle.rt_requests.specs.declared.peers.PeerRequest.TheVariants.{Create, Names}
use Rattle.rt_requests.specs.declared.settings.WidgetSettings.{WidgetSettings}
use Rattle.rt_recording.specs.EditedValue.{EditedValue}
use Rattle.rt_text.specs.Limited.{with_peer}
use Rattle.rt_peers.specs.SiteValue.{SiteValue, is_widget, number_of_path}
use Rattle.rt_peers.specs.Options.{choice_of, text_configured}
use Rattle.rt_peers.specs.ViewStep.{Outcome, as_outcome, one_word}
use Rattle.rt_peers.specs.Peers.{text_led, with_widget, without_widget}

-- `peer create PATH ?OPTION VALUE ...?`

-- no two widgets have one path
abbrev pub path_check : Word → List Word → Option Fault
path_check path paths = if is_widget path paths then Some WidgetExists else None

-- one more widget of a text, the last one: it shows the lines that are asked for, and else those of the widget that commands; the
-- shared options are set too
abbrev pub text_with_peer : EditedValue → WidgetSettings → Result EditedValue Fault
text_with_peer text settings = text_configured text settings.shared (with_peer text.view (choice_of settings.start_line) (choice_of settings.end_line))

-- it is made by the widget of a number
abbrev pub created : ℕ → Word → SiteValue → WidgetSettings → Option Fault → Outcome SiteValue
created number path state settings (Some fault) = Err fault
created number path state settings None =
    as_outcome (λ text. (one_word path, with_widget number path state text)) (text_with_peer (text_led number state.text) settings)

-- `peer names`: the paths of the other widgets, in the order in which they were made
abbrev pub other_paths : Word → List Word → List Word
other_paths path paths = filter (λ other. not (bytes_eq other path)) paths

-- what is asked of the peers of the widget of a path, which is the one of a number
abbrev pub peer_step : Word → ℕ → SiteValue → PeerRequest → Outcome SiteValue
peer_step path number state (Create new settings) = created number new state settings (path_check new state.paths)
peer_step path number state Names = Ok (other_paths path state.paths, state)

-- `destroy PATH`

-- the only widget of a site stays
abbrev pub last_check : List Word → Option Fault
last_check paths = if nat_lt 1 (length paths) then None else Some LastWidget

abbrev pub destroyed_at : Option ℕ → SiteValue → Result SiteValue Fault
destroyed_at None state = Err NoWidget
destroyed_at (Some number) state = unless (last_check state.paths) (without_widget number state)

-- the widget of a path is no longer there
abbrev pub destroyed : Word → SiteValue → Result SiteValue Fault
destroyed path state = destroyed_at (number_of_path path state.paths) state

-- The widget of a path goes, and the reply has no words; or it is refused, and the site is as it was.
pub record Destroys (path : Word) (old : SiteValue) (result : Result (List Word) Fault) (new : SiteValue) : Type 0 where
  pub reply : IfOk result (λ reply. reply ≡ [])
  pub ok : OnOk result (destroyed path old ≡ Ok new)
  pub err : IfErr result (λ fault. destroyed path old ≡ Err fault)
  pub unchanged : OnErr result (new ≡ old)
