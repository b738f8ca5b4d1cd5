-- What the commands of a site's widgets do: the reply and the site after it, or why it is refused.
use Rattle.std.specs.Prelude.{◌≡◌, ℕ, Bool, true, nat_lt, List, length, Option, Some, None, Result, Ok, Err, MatchBool}
use Rattle.rt_stamps.specs.declared.fault.Fault.{Fault}
use Rattle.rt_stamps.specs.declared.fault.Fault.TheVariants.{NoWidget}
use Rattle.rt_stamps.specs.Outcomes.{Answers}
use Rattle.rt_stamps.specs.Words.{Word}
use Rattle.rt_requests.specs.declared.request.Request.{Request}
use Rattle.rt_requests.specs.declared.request.Request.TheVariants.{Peer}
use Rattle.rt_requests.specs.Asking.{Asked, Asks}
use Rattle.rt_recording.specs.EditedValue.{EditedValue}
use Rattle.rt_recording.specs.Edits.{text_with_new}
use Rattle.rt_holding.specs.declared.receiving.Received.{Received}
use Rattle.rt_holding.specs.Receiving.{Receives}
use Rattle.rt_holding.specs.Taken.{AreTried, site_holding}
use Rattle.rt_ops.specs.Operations.{Body, Operation}
use Rattle.rt_rga.specs.Drafts.{with_drafts}
use Rattle.rt_rga.specs.Requests.{MayBeMade, fit}
use Rattle.rt_peers.specs.PeerStep.{peer_step}
use Rattle.rt_peers.specs.SiteValue.{SiteValue, holding_of_site, number_of_path}
use Rattle.rt_peers.specs.Step.{step}
use Rattle.rt_peers.specs.ViewStep.{Outcome, as_outcome}
use Rattle.rt_peers.specs.Peers.{text_led}

-- what the widget of a number does to the text that it shows, as one to the site
abbrev pub by_widget : ℕ → SiteValue → (EditedValue → Outcome EditedValue) → Outcome SiteValue
by_widget number state does = as_outcome (λ answer. (answer.0, record state { text = text_led number answer.1 })) (does (text_led number state.text))

-- what `by_widget` does to a site, as one to its text
abbrev pub by_leading : ℕ → EditedValue → (EditedValue → Outcome EditedValue) → Outcome EditedValue
by_leading number text does = as_outcome (λ answer. (answer.0, text_led number answer.1)) (does (text_led number text))

-- what is asked of the widget of a path, where there is one
abbrev pub at_widget : Option ℕ → (ℕ → Outcome SiteValue) → Outcome SiteValue
at_widget None does = Err NoWidget
at_widget (Some number) does = does number

-- a request to the widget of a path, which is the one of a number: of its peers the site answers, and of all else its text
abbrev pub widget_step : Word → ℕ → SiteValue → Request → Outcome SiteValue
widget_step path number state (Peer request) = peer_step path number state request
widget_step path number state request = by_widget number state (λ text. step text request)

-- a request to the widget of a path
abbrev pub step_at : Word → SiteValue → Request → Outcome SiteValue
step_at path state request = at_widget (number_of_path path state.paths) (λ number. widget_step path number state request)

-- words that ask it for something, or that are refused
abbrev pub outcome_at : Word → SiteValue → Asked → Outcome SiteValue
outcome_at path state (Ok request) = step_at path state request
outcome_at path state (Err fault) = at_widget (number_of_path path state.paths) (λ number. Err fault)

-- HELD OPERATIONS

-- the log of a text, and how many cells it may have
abbrev pub text_log : EditedValue → List Operation
text_log text = text.view.doc.log

abbrev pub text_limit : EditedValue → ℕ
text_limit text = text.view.doc.limit

-- held operations are tried for a text, and some of them are taken
abbrev pub TextTries : EditedValue → List Operation → EditedValue → List Operation → Type 0
TextTries old held new left = (count : ℕ) × AreTried text_log text_with_new (text_limit old) (site_holding text_log old held) old new left count

-- Held operations are tried: those that can be taken are, one after the other, and change the text as received ones do.
pub record Tries (old new : SiteValue) : Type 0 where
  pub count : ℕ
  pub tried : AreTried text_log text_with_new (text_limit old.text) (holding_of_site old) old.text new.text new.held count
  pub widgets : new.paths ≡ old.paths

-- OPERATIONS OF ITS OWN

-- a site's log, its number, and how many cells it may have
abbrev pub log_of : SiteValue → List Operation
log_of state = text_log state.text

abbrev pub site_of : SiteValue → ℕ
site_of state = state.text.view.doc.site

abbrev pub cell_limit : SiteValue → ℕ
cell_limit state = text_limit state.text

-- a site accepts no operation, and holds those that it held
pub record KeepsOperations (old new : SiteValue) : Type 0 where
  pub log : log_of new ≡ log_of old
  pub held : new.held ≡ old.held
  pub site : site_of new ≡ site_of old
  pub limit : cell_limit new ≡ cell_limit old

-- It makes operations of drafts. Each keeps the rules and names what is known when its turn comes; their counts fit, and so do all
-- cells; the log has just these operations more.
pub record SiteMakes (drafts : List Body) (old new : SiteValue) : Type 0 where
  pub may : MayBeMade (site_of old) (log_of old) drafts
  pub fit : fit (site_of old) (cell_limit old) drafts (log_of old) ≡ true
  pub log : log_of new ≡ with_drafts (site_of old) drafts (log_of old)
  pub held : new.held ≡ old.held
  pub site : site_of new ≡ site_of old
  pub limit : cell_limit new ≡ cell_limit old

-- it makes some, and then those that it holds are tried
pub record MakesAndTries (old mid new : SiteValue) : Type 0 where
  pub drafts : List Body
  pub makes : SiteMakes drafts old mid
  pub tries : Tries mid new

-- a site made operations: its log has more than before
abbrev pub has_made : SiteValue → SiteValue → Bool
has_made old new = nat_lt (length (log_of old)) (length (log_of new))

-- A request is answered as its outcome says. Where the site made operations for it, those that it holds are tried then.
abbrev pub AnswersInTurn : Outcome SiteValue → SiteValue → Result (List Word) Fault → SiteValue → Type 0
AnswersInTurn outcome old result new =
    (mid : SiteValue) × Answers outcome old result mid × MatchBool (has_made old mid) (MakesAndTries old mid new) (KeepsOperations old mid × (new ≡ mid))

-- COMMANDS

-- What PATH COMMAND WORDS gives in a state: a reply or a fault, and the state after it. Its words ask for something or are refused.
-- That there is no widget of the path comes first, and takes no memory.
pub record Gives (path : Word) (words : List Word) (old : SiteValue) (result : Result (List Word) Fault) (new : SiteValue) : Type 0 where
  pub asked : Asked
  pub asks : Asks words asked
  pub answers : AnswersInTurn (outcome_at path old asked) old result new
  pub none : number_of_path path old.paths ≡ None → (result ≡ Err NoWidget) × (new ≡ old)

-- OPERATIONS OF OTHER SITES

-- a site receives the bytes of a file: its text does, with the operations that it holds, and its widgets stay
pub record SiteReceives (bytes : List ℕ) (old : SiteValue) (received : Received) (new : SiteValue) : Type 0 where
  pub text : Receives text_log text_limit text_with_new bytes (record { site = old.text; held = old.held }) received
      (record { site = new.text; held = new.held })
  pub widgets : new.paths ≡ old.paths
