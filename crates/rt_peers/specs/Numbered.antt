-- What is asked of the widget of a number, the place of its path among those of the site.
use Rattle.std.specs.Prelude.{ℕ, nat_lt, length, Option, Some, None, Err, if◌then◌else◌}
use Rattle.rt_stamps.specs.declared.fault.Fault.TheVariants.{NoWidget}
use Rattle.rt_requests.specs.declared.request.Request.{Request}
use Rattle.rt_text.specs.Widgets.{ViewValue, view_as}
use Rattle.rt_peers.specs.SiteStep.{by_widget}
use Rattle.rt_peers.specs.SiteValue.{SiteValue}
use Rattle.rt_peers.specs.Step.{step}
use Rattle.rt_peers.specs.ViewStep.{Outcome}

-- the text as the widget of a number shows it; none where there is no such widget
abbrev pub view_by : ℕ → SiteValue → Option ViewValue
view_by number state = if nat_lt number (length state.paths) then Some (view_as number state.text.view) else None

-- a request to the widget of a number; of its peers a widget is asked by its path
abbrev pub step_by : ℕ → SiteValue → Request → Outcome SiteValue
step_by number state request = if nat_lt number (length state.paths) then by_widget number state (λ text. step text request) else Err NoWidget
