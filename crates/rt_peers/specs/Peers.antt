-- The widgets of a site, each of which shows its text (Tk text manual, "PEER WIDGETS"): one of them commands, one more is made, one
-- is no longer there.
use Rattle.std.specs.Prelude.{◌≡◌, ℕ, List, [], ◌∷◌, ◌++◌, drop, get_or, length, set}
use Rattle.std.specs.List.{IsDistinct, remove}
use Rattle.std.specs.Str.{bytes_eq}
use Rattle.rt_stamps.specs.Words.{Word}
use Rattle.rt_recording.specs.EditedValue.{EditedValue}
use Rattle.rt_text.specs.Widgets.{ViewValue, widgets_of}
use Rattle.rt_peers.specs.SiteValue.{SiteValue}

-- each widget has a path of its own
pub record HavePaths (paths : List Word) (view : ViewValue) : Type 0 where
  pub each : length paths ≡ length (widgets_of view)
  pub differ : IsDistinct bytes_eq paths

-- the widget of a number commands: it and the first one change places
abbrev pub view_led : ℕ → ViewValue → ViewValue
view_led number view = record view { own = get_or (widgets_of view) number view.own; others = drop 1 (set (widgets_of view) number view.own) }

abbrev pub text_led : ℕ → EditedValue → EditedValue
text_led number text = record text { view = view_led number text.view }

-- a site with one more path, the last one, where the widget of a number left the text with one more widget
abbrev pub with_widget : ℕ → Word → SiteValue → EditedValue → SiteValue
with_widget number path state text = record state { paths = state.paths ++ path ∷ []; text = text_led number text }

-- the widget of a number is no longer there; the others stay in their order
abbrev pub view_without : ℕ → ViewValue → ViewValue
view_without number view =
    let left = remove (widgets_of view) number in
    record view { own = get_or left 0 view.own; others = drop 1 left }

abbrev pub without_widget : ℕ → SiteValue → SiteValue
without_widget number state =
    record state { paths = remove state.paths number; text = record state.text { view = view_without number state.text.view } }
