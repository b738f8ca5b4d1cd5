-- The ranges of the worked examples.
use Rattle.std.specs.Prelude.{ℕ, List, [], ◌∷◌}
use Rattle.rt_plans.specs.declared.range.Range.{Range}

-- the characters from a place up to before another
abbrev pub range : ℕ → ℕ → Range
range from to = record { from = from; to = to }

-- of four characters all but the third have the tag
abbrev pub two_ranges : List Range
two_ranges = range 0 2 ∷ range 3 4 ∷ []
