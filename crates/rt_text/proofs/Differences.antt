-- Distances between places of a part of a text.
use Rattle.std.proofs.Common.{◌≡◌, ℕ, ◌+◌, ◌-◌, ◌≤◌, List, [], ◌∷◌, map, refl, ◌∙◌, arith}
use Rattle.std.specs.Prelude.{pos, ◌-ℤ◌}
use Rattle.std.proofs.lemmas.Int.{ints}
use Rattle.rt_index.specs.declared.measure.Measure.{Measure}
use Rattle.rt_index.specs.declared.measure.Measure.TheVariants.{Chars, Indices, Lines}
use Rattle.rt_stamps.specs.Places.{line_of}
use Rattle.rt_text.specs.Distances.{distance_of}
use Rattle.rt_text.specs.Lines.{AreLines}
use Rattle.rt_lines.specs.declared.stretch.Stretch.{Stretch}
use Rattle.rt_lines.specs.Stretches.{part}
use Rattle.rt_text.proofs.PartLines.{before, line_in_part}

-- numbers that are both greater by one are as far apart
moved : (n a b : ℕ) → pos (n + a) -ℤ pos (n + b) ≡ pos a -ℤ pos b
moved n a b = omega (arith, ints)

module _ (t : List ℕ) (stretch : Stretch) (lines : AreLines t stretch) (from to : ℕ) (f : from ≤ stretch.end - stretch.begin) (e : to ≤ stretch.end - stretch.begin) where
  distance_in_part : (measure : Measure) → distance_of t (stretch.begin + from) (stretch.begin + to) measure ≡ distance_of (part stretch t) from to measure
  distance_in_part Chars = moved stretch.begin to from
  distance_in_part Indices = moved stretch.begin to from
  distance_in_part Lines =
      (λ i. pos (line_in_part t stretch lines to e i) -ℤ pos (line_in_part t stretch lines from f i)) ∙ moved (before t stretch) (line_of (part stretch t) to) (line_of (part stretch t) from)

  pub distances_in_part : (measures : List Measure) → map (distance_of t (stretch.begin + from) (stretch.begin + to)) measures ≡ map (distance_of (part stretch t) from to) measures
  distances_in_part [] = refl
  distances_in_part (m ∷ measures) = λ i. distance_in_part m i ∷ distances_in_part measures i
