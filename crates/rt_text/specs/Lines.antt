-- Stretches of whole lines.
use Rattle.std.specs.Prelude.{◌≡◌, ℕ, ◌-◌, ◌<◌, ◌≤◌, List, length, Some, slice_get}
use Rattle.rt_stamps.specs.Places.{line_of, line_start}
use Rattle.rt_lines.specs.declared.stretch.Stretch.{Stretch}

-- a stretch of a text from where a line starts up to behind the newline of one
pub record AreLines (text : List ℕ) (stretch : Stretch) : Type 0 where
  pub some : stretch.begin < stretch.end
  pub within : stretch.end ≤ length text
  pub starts : stretch.begin ≡ line_start text (line_of text stretch.begin)
  pub newline : slice_get text (stretch.end - 1) ≡ Some 10
