-- Lines of a script, which is a list of bytes.
use Rattle.std.specs.Prelude.{◌≡◌, ℕ, ◌==◌, ◌&&◌, ◌||◌, not, nat_le, List, [], ◌∷◌, ◌++◌, length, map, filter, Bool, true, if◌then◌else◌}
use Rattle.std.specs.List.{AllByRecursion, flat_map, list_all}
use Rattle.std.specs.Str.{is_utf8}
use Rattle.rt_stamps.specs.declared.limits.TheConstants.{MOST_LINE_BYTES}
use Rattle.rt_words.specs.Spelling.{is_blank}

-- a byte before the lines that newlines end and before what follows them
abbrev pub before_all : ℕ → List (List ℕ) → List ℕ → List (List ℕ) × List ℕ
before_all c [] rest = ([], c ∷ rest)
before_all c (line ∷ lines) rest = ((c ∷ line) ∷ lines, rest)

-- the lines that newlines end, and what follows the last newline
abbrev pub split_lines : List ℕ → List (List ℕ) × List ℕ
split_lines [] = ([], [])
split_lines (c ∷ bytes) = if c == 10 then ([] ∷ (split_lines bytes).0, (split_lines bytes).1) else before_all c (split_lines bytes).0 (split_lines bytes).1

-- no byte is a newline
abbrev pub is_one_line : List ℕ → Bool
is_one_line line = list_all (λ c. not (c == 10)) line

-- These lines, each with its newline, and then the rest are the bytes, and no newline stands in a line or in the rest.
pub record AreCutLines (bytes : List ℕ) (lines : List (List ℕ)) (rest : List ℕ) : Type 0 where
  pub whole : flat_map (λ line. line ++ 10 ∷ []) lines ++ rest ≡ bytes
  pub lines_end : AllByRecursion (λ line. is_one_line line ≡ true) lines
  pub rest_open : is_one_line rest ≡ true

-- a line without a carriage return at its end
abbrev pub without_return : List ℕ → List ℕ
without_return [] = []
without_return (c ∷ []) = if c == 13 then [] else c ∷ []
without_return (c ∷ d ∷ line) = c ∷ without_return (d ∷ line)

-- the lines that newlines end: a carriage return just before the newline isn't the line's
abbrev pub complete_of : List ℕ → List (List ℕ)
complete_of bytes = map without_return (split_lines bytes).0

-- what follows the last newline
abbrev pub rest_of : List ℕ → List ℕ
rest_of bytes = (split_lines bytes).1

-- what follows the last newline is a line too, if there is anything
abbrev pub rest_line : List ℕ → List (List ℕ)
rest_line [] = []
rest_line (c ∷ rest) = (c ∷ rest) ∷ []

-- the lines of a script
abbrev pub lines_of : List ℕ → List (List ℕ)
lines_of bytes = complete_of bytes ++ rest_line (rest_of bytes)

-- a line that isn't too long and is a text
abbrev pub is_readable : List ℕ → Bool
is_readable line = nat_le (length line) MOST_LINE_BYTES && is_utf8 line

-- a comment, or nothing but spaces and tabs
abbrev pub is_silent : List ℕ → Bool
is_silent [] = true
is_silent (c ∷ line) = (c == 35) || list_all is_blank (c ∷ line)

-- the lines that are answered: those that can't be read too
abbrev pub answered_lines : List (List ℕ) → List (List ℕ)
answered_lines lines = filter (λ line. not (is_readable line && is_silent line)) lines
