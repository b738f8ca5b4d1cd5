-- The part of a text that is searched.
use Rattle.std.specs.Prelude.{ℕ, ◌≤◌}
use Rattle.rt_lines.specs.declared.stretch.Stretch.{Stretch}

-- a stretch lies in a text of n characters
pub record IsStretchIn (n : ℕ) (stretch : Stretch) : Type 0 where
  pub order : stretch.begin ≤ stretch.end
  pub within : stretch.end ≤ n
