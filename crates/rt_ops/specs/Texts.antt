-- The characters of a text, however they are kept.
use Rattle.std.specs.Prelude.{ℕ, List, [], ◌∷◌}
use Rattle.rt_ops.specs.declared.text.Kept.{Kept}
use Rattle.rt_ops.specs.declared.text.Kept.TheVariants.{One, Many}

abbrev pub characters_of : Kept → List ℕ
characters_of (One character) = character ∷ []
characters_of (Many characters) = characters.items
