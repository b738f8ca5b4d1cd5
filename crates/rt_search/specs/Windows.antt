-- What a window shows of a text.
use Rattle.std.specs.Prelude.{◌≡◌, ◌≤◌, ℕ, List, length, take, drop}
use Rattle.rt_search.specs.declared.window.Window.{Window}
use Rattle.rt_search.specs.declared.window.TheConstants.{WINDOW_CHARACTERS}

-- the characters of a window are those of the text from its start on
pub record Shows (text : List ℕ) (window : Window) : Type 0 where
  pub size : length window.chars ≡ WINDOW_CHARACTERS
  pub within : window.len ≤ WINDOW_CHARACTERS
  pub shown : take window.len window.chars ≡ take window.len (drop window.start text)
  pub there : window.len ≤ length (drop window.start text)
