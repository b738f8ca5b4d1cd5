-- The grammar read from the left: what the parts of a text are, if it has them. That this is the grammar is a law.
use Rattle.std.specs.Prelude.{ℕ, zero, suc, ◌==◌, ◌||◌, nat_lt, Bool, not, List, [], ◌∷◌, length, take, drop, Option, Some, None, codes, bytes_eq, option_map, option_and_then, if◌then◌else◌}
use Rattle.std.specs.List.{prefix_len, starts_with}
use Rattle.std.specs.Char.{is_ascii_digit, is_ascii_alphabetic}
use Rattle.std.specs.Str.Parse.{digits_value}
use Rattle.std.specs.Prelude.{eqb}
use Rattle.rt_index.specs.declared.parts.Fixed.{Fixed}
use Rattle.rt_index.specs.declared.parts.Fixed.TheVariants.{Character, LineEndOf, End}
use Rattle.rt_index.specs.declared.parts.Sign.{Sign}
use Rattle.rt_index.specs.declared.parts.Sign.TheVariants.{Plus, Minus}
use Rattle.rt_index.specs.declared.parts.Step.{Step}
use Rattle.rt_index.specs.declared.parts.Step.TheVariants.{Characters, Lines}
use Rattle.rt_index.specs.declared.parts.Keyword.{Keyword}
use Rattle.rt_index.specs.declared.parts.Keyword.TheVariants.{LineStart, LineEnd, WordStart, WordEnd}
use Rattle.rt_index.specs.declared.parts.Modifier.{Modifier}
use Rattle.rt_index.specs.declared.parts.Modifier.TheVariants.{To}
use Rattle.rt_index.specs.Grammar.{counted_modifier, turned}

abbrev pub is_space : ℕ → Bool
is_space c = c == 32

-- what ends a token: a space, `+` or `-`
abbrev pub is_separator : ℕ → Bool
is_separator c = (c == 32) || (c == 43) || (c == 45)

-- how many characters the token at the front has
abbrev pub token_length : List ℕ → ℕ
token_length word = prefix_len (λ c. not (is_separator c)) word

-- the text without the spaces at its front
abbrev pub after_spaces : List ℕ → List ℕ
after_spaces text = drop (prefix_len is_space text) text

-- `digits | "end"` of a position
abbrev pub column_of : ℕ → List ℕ → Option Fixed
column_of line text =
    if bytes_eq text (codes "end") then Some (LineEndOf line)
    else if (length text == 0) || nat_lt (prefix_len is_ascii_digit text) (length text) then None
    else Some (Character line (digits_value 10 text))

-- what follows the digits of a position
abbrev pub after_line : ℕ → List ℕ → Option Fixed
after_line line [] = None
after_line line (c ∷ text) = if c == 46 then column_of line text else None

-- a position
abbrev pub fixed_position_of : List ℕ → Option Fixed
fixed_position_of text =
    let n = prefix_len is_ascii_digit text in
    if n == 0 then None else after_line (digits_value 10 (take n text)) (drop n text)

-- a position or `end`
abbrev pub fixed_of : List ℕ → Option Fixed
fixed_of text = if bytes_eq text (codes "end") then Some End else fixed_position_of text

abbrev pub unit_of : List ℕ → Option Step
unit_of run =
    if length run == 0 then None
    else if starts_with eqb (codes "chars") run || starts_with eqb (codes "indices") run then Some Characters
    else if starts_with eqb (codes "lines") run then Some Lines
    else None

abbrev pub keyword_of : List ℕ → Option Keyword
keyword_of run =
    if nat_lt (length run) 5 then None
    else if starts_with eqb (codes "linestart") run then Some LineStart
    else if starts_with eqb (codes "lineend") run then Some LineEnd
    else if starts_with eqb (codes "wordstart") run then Some WordStart
    else if starts_with eqb (codes "wordend") run then Some WordEnd
    else None

-- the text without an `any` at its front and the spaces after it
abbrev pub after_any : List ℕ → List ℕ
after_any text =
    let n = prefix_len is_ascii_alphabetic text in
    if bytes_eq (take n text) (codes "any") then after_spaces (drop n text) else text

-- a unit at the front, and what follows it
abbrev pub with_unit : Sign → ℕ → List ℕ → Option (Modifier × List ℕ)
with_unit sign k text =
    let n = prefix_len is_ascii_alphabetic text in
    option_map (λ step. (counted_modifier sign k step, drop n text)) (unit_of (take n text))

-- a keyword at the front, and what follows it
abbrev pub with_keyword : List ℕ → Option (Modifier × List ℕ)
with_keyword text =
    let n = prefix_len is_ascii_alphabetic text in
    option_map (λ keyword. (To keyword, drop n text)) (keyword_of (take n text))

-- digits spaces? ("any" spaces)? unit
abbrev pub with_number : Sign → List ℕ → Option (Modifier × List ℕ)
with_number sign text =
    let n = prefix_len is_ascii_digit text in
    if n == 0 then None else with_unit sign (digits_value 10 (take n text)) (after_any (after_spaces (drop n text)))

-- ("+" | "-")? and what with_number reads
abbrev pub with_second_sign : Sign → List ℕ → Option (Modifier × List ℕ)
with_second_sign sign [] = None
with_second_sign sign (c ∷ text) =
    if c == 43 then with_number sign text
    else if c == 45 then with_number (turned sign) text
    else with_number sign (c ∷ text)

-- a modifier without the spaces before it, of which there are some where `spaced` says so
abbrev pub modifier_at : Bool → List ℕ → Option (Modifier × List ℕ)
modifier_at spaced [] = None
modifier_at spaced (c ∷ text) =
    if c == 43 then with_second_sign Plus (after_spaces text)
    else if c == 45 then with_second_sign Minus (after_spaces text)
    else if spaced then with_keyword (after_any (c ∷ text))
    else None

-- the modifier at the front, and what follows it
abbrev pub first_modifier : List ℕ → Option (Modifier × List ℕ)
first_modifier text = modifier_at (nat_lt 0 (prefix_len is_space text)) (after_spaces text)

-- the modifiers of a text, where there are at most n
abbrev pub modifiers_within : ℕ → List ℕ → Option (List Modifier)
modifiers_within zero text = if length (after_spaces text) == 0 then Some [] else None
modifiers_within (suc n) text =
    if length (after_spaces text) == 0 then Some []
    else option_and_then (λ found. option_map (λ ms. found.0 ∷ ms) (modifiers_within n found.1)) (first_modifier text)

-- the modifiers that a text is, if it is modifiers: each has a character, so there are no more than characters
abbrev pub modifiers_of : List ℕ → Option (List Modifier)
modifiers_of text = modifiers_within (length text) text
