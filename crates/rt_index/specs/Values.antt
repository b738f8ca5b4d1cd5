-- The places that bases give and modifiers make, by the characters of a text (Tk text manual, "Indices").
-- n is the number of characters; a text ends with a newline.
use Rattle.std.specs.Prelude.{ℕ, ◌+◌, ◌-◌, ◌==◌, nat_lt, min, max, List, [], ◌∷◌, length, take, drop, reverse, slice_index, if◌then◌else◌}
use Rattle.std.specs.List.{prefix_len}
use Rattle.rt_stamps.specs.Places.{newlines, line_of, line_start, line_end, position_at, place_at}
use Rattle.rt_index.specs.Characters.{is_word_character}
use Rattle.rt_index.specs.declared.parts.Step.TheVariants.{Characters, Lines}
use Rattle.rt_index.specs.declared.parts.Keyword.{Keyword}
use Rattle.rt_index.specs.declared.parts.Keyword.TheVariants.{LineStart, LineEnd, WordStart, WordEnd}
use Rattle.rt_index.specs.declared.parts.Modifier.{Modifier}
use Rattle.rt_index.specs.declared.parts.Modifier.TheVariants.{Forward, Back, To}

-- `L.c`: character c of line L, or its newline where c is past it; the end where L is past the last line, place 0 for L = 0
abbrev pub character_place : List ℕ → ℕ → ℕ → ℕ
character_place text line character = place_at text (record { line = line; character = character })

-- `L.end`: the newline of line L; the end where L is past the last line, place 0 for L = 0
abbrev pub line_end_place : List ℕ → ℕ → ℕ
line_end_place text line =
    if line == 0 then 0
    else if nat_lt (newlines text) line then length text
    else line_end text line

-- line min(L + k, N), where L is the place's line and N the last one: the same character of it, or its newline; n stays
abbrev pub lines_forward : List ℕ → ℕ → ℕ → ℕ
lines_forward text place k =
    if nat_lt place (length text)
    then character_place text (min (line_of text place + k) (newlines text)) (position_at text place).character
    else length text

-- line max(L - k, 1): the same character of it, or its newline; at n, character 0 of line max(N + 1 - k, 1) where k isn't 0
abbrev pub lines_back : List ℕ → ℕ → ℕ → ℕ
lines_back text place k =
    if nat_lt place (length text)
    then character_place text (max (line_of text place - k) 1) (position_at text place).character
    else if k == 0 then length text
    else line_start text (max (newlines text + 1 - k) 1)

-- the first character of the word that holds the place: of a run of letters, digits and underscores, or of one other character
abbrev pub word_start : List ℕ → ℕ → ℕ
word_start text place =
    if is_word_character (slice_index text place)
    then place - prefix_len is_word_character (reverse (take place text))
    else place

-- the place after the last character of the word that holds the place
abbrev pub word_end : List ℕ → ℕ → ℕ
word_end text place =
    if is_word_character (slice_index text place)
    then place + prefix_len is_word_character (drop place text)
    else place + 1

-- the keywords, for a place of a character
abbrev pub keyword_place : List ℕ → ℕ → Keyword → ℕ
keyword_place text place LineStart = line_start text (line_of text place)
keyword_place text place LineEnd = line_end text (line_of text place)
keyword_place text place WordStart = word_start text place
keyword_place text place WordEnd = if nat_lt (place + 1) (length text) then word_end text place else place

-- what a modifier makes of a place; the keywords leave n
abbrev pub moved : List ℕ → ℕ → Modifier → ℕ
moved text place (Forward k Characters) = min (place + k) (length text)
moved text place (Back k Characters) = place - k
moved text place (Forward k Lines) = lines_forward text place k
moved text place (Back k Lines) = lines_back text place k
moved text place (To keyword) = if nat_lt place (length text) then keyword_place text place keyword else place

-- the modifiers of an expression, one after another
abbrev pub all_moved : List ℕ → ℕ → List Modifier → ℕ
all_moved text place [] = place
all_moved text place (m ∷ ms) = all_moved text (moved text place m) ms
