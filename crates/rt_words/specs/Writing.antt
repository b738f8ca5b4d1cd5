-- How a word is written.
use Rattle.std.specs.Prelude.{ℕ, ◌==◌, ◌||◌, List, [], ◌∷◌, ◌++◌, Bool, flat_map, codes, if◌then◌else◌}
use Rattle.std.specs.List.{list_any}
use Rattle.rt_stamps.specs.Words.{Word}
use Rattle.rt_words.specs.Spelling.{escape_of}

-- space, tab, newline, carriage return, quote, backslash and braces
abbrev pub needs_quotes : ℕ → Bool
needs_quotes c = (c == 32) || (c == 9) || (c == 10) || (c == 13) || (c == 34) || (c == 92) || (c == 123) || (c == 125)

-- a word as it is written: in quotes if it is empty or has such a character, and else bare
abbrev pub text_of_word : Word → List ℕ
text_of_word [] = codes "\"\""
text_of_word (c ∷ word) = if list_any needs_quotes (c ∷ word) then 34 ∷ flat_map escape_of (c ∷ word) ++ (34 ∷ []) else c ∷ word
