-- What is asked of the widget of a number.
use Rattle.std.proofs.Common.{◌≡◌, ◌≤◌, ◌<◌, ℕ, Bool, List, None, Option, Some, Err, String, Global, ap, arith, cond, length, subst}
use Rattle.rt_stamps.specs.declared.fault.Fault.TheVariants.{NoWidget}
use Rattle.rt_stamps.specs.Words.{as_words}
use Rattle.rt_requests.specs.declared.request.Request.{Request}
use Rattle.rt_text.specs.Widgets.{ViewValue, view_as}
use Rattle.rt_peers.specs.Numbered.{step_by, view_by}
use Rattle.rt_peers.specs.SiteStep.{by_widget}
use Rattle.rt_peers.specs.SiteValue.{SiteValue}
use Rattle.rt_peers.specs.Step.{step}
use Rattle.rt_peers.specs.ViewStep.{Outcome}
use Rattle.rt_peers.proofs.InTurn.{less, not_less}
use Rattle.rt_peers.proofs.PeerLaws.{number_of_strings}

module _ (number : ℕ) (state : SiteValue) where
  abbrev does : Request → Outcome SiteValue
  does request = by_widget number state (λ text. step text request)

  abbrev refused : Outcome SiteValue
  refused = Err NoWidget

  abbrev shown : Option ViewValue
  shown = Some (view_as number state.text.view)

  abbrev no_view : Option ViewValue
  no_view = None

  pub step_there : (request : Request) → number < length state.paths → step_by number state request ≡ by_widget number state (λ text. step text request)
  step_there request h = ap (λ (b : Bool). cond b (does request) refused) (less number (length state.paths) h)

  pub step_nowhere : (request : Request) → length state.paths ≤ number → step_by number state request ≡ Err NoWidget
  step_nowhere request h = ap (λ (b : Bool). cond b (does request) refused) (not_less number (length state.paths) h)

  pub view_there : number < length state.paths → view_by number state ≡ Some (view_as number state.text.view)
  view_there h = ap (λ (b : Bool). cond b shown no_view) (less number (length state.paths) h)

  pub view_nowhere : length state.paths ≤ number → view_by number state ≡ None
  view_nowhere h = ap (λ (b : Bool). cond b shown no_view) (not_less number (length state.paths) h)

-- the paths of a site as its code has them
pub is_there : (number : ℕ) (strings : List (String Global)) (paths : List (List ℕ)) → as_words strings ≡ paths → number < length strings → number < length paths
is_there number strings paths same h =
    let each = number_of_strings strings in
    subst (λ (l : List (List ℕ)). number < length l) same (omega (arith, each, h))

pub is_nowhere : (number : ℕ) (strings : List (String Global)) (paths : List (List ℕ)) → as_words strings ≡ paths → length strings ≤ number → length paths ≤ number
is_nowhere number strings paths same h =
    let each = number_of_strings strings in
    subst (λ (l : List (List ℕ)). length l ≤ number) same (omega (arith, each, h))
