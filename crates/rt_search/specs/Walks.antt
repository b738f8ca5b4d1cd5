-- Where a walk through the characters of a text stands.
use Rattle.std.specs.Prelude.{◌≡◌, ◌≤◌, ◌+◌, ℕ, List, length}
use Rattle.rt_stamps.specs.Places.{line_of, line_start}
use Rattle.rt_search.specs.declared.walk.Walk.{Walk}
use Rattle.rt_search.specs.Windows.{Shows}

-- at a place of the text, with its line and the first place of that
pub record WalkStands (text : List ℕ) (walk : Walk) : Type 0 where
  pub within : walk.place ≤ length text
  pub line : walk.line ≡ line_of text walk.place
  pub start : walk.start ≡ line_start text (line_of text walk.place)
  pub few : walk.line ≤ walk.place + 1
  pub before : walk.start ≤ walk.place
  pub shows : Shows text walk.window
