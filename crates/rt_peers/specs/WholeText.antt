-- The command that tells the whole text of a site.
use Rattle.std.specs.Prelude.{◌≡◌, ℕ, [], ◌∷◌, Some, codes}
use Rattle.rt_stamps.specs.Words.{Word}
use Rattle.rt_lines.specs.Limits.{no_limits}
use Rattle.rt_requests.specs.declared.request.Request.{Request}
use Rattle.rt_requests.specs.declared.request.Request.TheVariants.{Get}
use Rattle.rt_peers.specs.Peers.{text_led}
use Rattle.rt_peers.specs.SiteValue.{SiteValue, number_of_path}

-- get 1.0 end
abbrev pub get_all : Request
get_all = Get (record { first = codes "1.0"; others = codes "end" ∷ [] })

-- there is a widget of a path, and it has no limits
pub record ShowsAll (path : Word) (state : SiteValue) : Type 0 where
  pub number : ℕ
  pub there : number_of_path path state.paths ≡ Some number
  pub limits : (text_led number state.text).view.own.limits ≡ no_limits
