-- A word of a line, or of a list: its bytes.
use Rattle.std.specs.Prelude.{ℕ, List, map, string_bytes}
use Rattle.std.specs.declared.string.String.{String}

abbrev pub Word : Type 0
Word = List ℕ

module _ {Z : Type 0} where
  -- the words that stand in strings
  abbrev pub as_words : List (String Z) → List Word
  as_words strings = map (λ s. string_bytes s) strings
