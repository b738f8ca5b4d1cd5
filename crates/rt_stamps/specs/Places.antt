-- Places, lines and characters of a text, which is a list of characters. A line ends with its newline.
-- Lines count from 1, the characters of a line from 0, and the place after the last character is the text's end.
use Rattle.std.specs.Prelude.{◌≡◌, ℕ, zero, suc, ◌+◌, ◌-◌, ◌==◌, nat_le, List, [], ◌∷◌, ◌++◌, Bool, length, take, min, if◌then◌else◌}
use Rattle.std.specs.Fmt.{decimal}
use Rattle.rt_stamps.specs.declared.position.Position.{Position}

abbrev pub is_newline : ℕ → Bool
is_newline c = c == 10

-- the last character is a newline
abbrev pub EndsWithNewline : List ℕ → Type 0
EndsWithNewline text = (front : List ℕ) × (text ≡ front ++ 10 ∷ [])

-- how many newlines there are
abbrev pub newlines : List ℕ → ℕ
newlines [] = 0
newlines (c ∷ text) = if is_newline c then newlines text + 1 else newlines text

-- the place after the first k newlines
abbrev pub after_newlines : ℕ → List ℕ → ℕ
after_newlines zero text = 0
after_newlines (suc k) [] = 0
after_newlines (suc k) (c ∷ text) = if is_newline c then after_newlines k text + 1 else after_newlines (suc k) text + 1

-- the line of a place: one more than the newlines before it
abbrev pub line_of : List ℕ → ℕ → ℕ
line_of text place = newlines (take place text) + 1

-- the first place of a line, which is the place after the newline that ends the line before
abbrev pub line_start : List ℕ → ℕ → ℕ
line_start text line = after_newlines (line - 1) text

-- the place of the newline that ends a line
abbrev pub line_end : List ℕ → ℕ → ℕ
line_end text line = after_newlines line text - 1

-- a position as it is written, LINE.CHARACTER
abbrev pub text_of_position : Position → List ℕ
text_of_position p = decimal p.line ++ 46 ∷ decimal p.character

-- the line of a place, and how far the place is from the line's start
abbrev pub position_at : List ℕ → ℕ → Position
position_at text place = record { line = line_of text place; character = place - line_start text (line_of text place) }

-- The place of a position: the line's newline where the character is past it, the text's end where the line is past
-- the last one, the text's beginning for line 0.
abbrev pub place_at : List ℕ → Position → ℕ
place_at text p =
    if p.line == 0 then 0
    else if nat_le p.line (newlines text) then min (line_start text p.line + p.character) (line_end text p.line)
    else length text
