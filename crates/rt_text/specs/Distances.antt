-- How far one place of a text is from another (Tk text manual).
use Rattle.std.specs.Prelude.{ℕ, List, [], ◌∷◌, ℤ, pos, ◌-ℤ◌}
use Rattle.rt_stamps.specs.Places.{line_of}
use Rattle.rt_index.specs.declared.measure.Measure.{Measure}
use Rattle.rt_index.specs.declared.measure.Measure.TheVariants.{Chars, Indices, Lines}

-- indices are counted where no measure is given
abbrev pub or_indices : List Measure → List Measure
or_indices [] = Indices ∷ []
or_indices (measure ∷ measures) = measure ∷ measures

-- From a place to another, which is negative where the first is later. Each character has an index of its own. Lines are
-- those of the places.
abbrev pub distance_of : List ℕ → ℕ → ℕ → Measure → ℤ
distance_of text from to Chars = pos to -ℤ pos from
distance_of text from to Indices = pos to -ℤ pos from
distance_of text from to Lines = pos (line_of text to) -ℤ pos (line_of text from)
