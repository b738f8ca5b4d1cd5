-- The words for a limit of what a widget shows, and what they say (Tk text manual, -startline and -endline).
use Rattle.std.specs.Prelude.{ℕ, ◌^◌, nat_lt, [], ◌∷◌, Option, Some, None, if◌then◌else◌}
use Rattle.std.specs.Str.{all_ascii_digits}
use Rattle.std.specs.Str.Parse.{digits_value}
use Rattle.rt_stamps.specs.Words.{Word}
use Rattle.rt_requests.specs.declared.limits.Limit.{Limit}
use Rattle.rt_requests.specs.declared.limits.Limit.TheVariants.{Absent, Line, PastEveryLine}

-- the line of a number, where the number is one that is kept; no text has so many lines that one has a greater number
abbrev pub limit_at_line : ℕ → Limit
limit_at_line number = if nat_lt number (2 ^ 64) then Line number else PastEveryLine

-- the empty word says that there is no limit, and digits alone a line by its number; another word says nothing
abbrev pub limit_of : Word → Option Limit
limit_of [] = Some Absent
limit_of (c ∷ word) = if all_ascii_digits (c ∷ word) then Some (limit_at_line (digits_value 10 (c ∷ word))) else None
