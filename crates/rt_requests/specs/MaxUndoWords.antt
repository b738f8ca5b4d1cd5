-- The words for the most groups that the undo stack may have, and what they say (Tk text manual, -maxundo).
use Rattle.std.specs.Prelude.{ℕ, ◌-◌, ◌^◌, ◌==◌, ◌&&◌, min, Bool, false, [], ◌∷◌, Option, Some, None, if◌then◌else◌}
use Rattle.std.specs.Str.{all_ascii_digits}
use Rattle.std.specs.Str.Parse.{digits_value}
use Rattle.rt_stamps.specs.Words.{Word}

-- one digit or more, and nothing else
abbrev pub is_number : Word → Bool
is_number [] = false
is_number (c ∷ word) = all_ascii_digits (c ∷ word)

-- a number with a minus in front
abbrev pub is_negated : Word → Bool
is_negated [] = false
is_negated (c ∷ word) = c == 45 && is_number word

-- as many groups as digits say, and 2^63 - 1 where they say more
abbrev pub most_groups_of : Word → ℕ
most_groups_of digits = min (digits_value 10 digits) (2 ^ 63 - 1)

-- a number says the most groups that there may be, and 0 says that there is no limit; so does a number with a minus in front, which is
-- zero or less; another word says nothing
abbrev pub max_undo_of : Word → Option ℕ
max_undo_of word =
    if is_negated word then Some 0
    else if is_number word then Some (most_groups_of word)
    else None
