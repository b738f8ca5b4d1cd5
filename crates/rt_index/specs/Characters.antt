-- The characters of words.
use Rattle.std.specs.Prelude.{ℕ, ◌==◌, ◌||◌, Bool}
use Rattle.unicode.specs.Binary.{is_alphabetic}
use Rattle.unicode.specs.GeneralCategory.{general_category, general_category_eq}
use Rattle.unicode.specs.declared.properties.GeneralCategory.TheVariants.{DecimalNumber}

-- a letter, a digit or an underscore
abbrev pub is_word_character : ℕ → Bool
is_word_character c = is_alphabetic c || general_category_eq (general_category c) DecimalNumber || (c == 95)
