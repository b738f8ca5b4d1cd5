-- How a text spells the words of a line, or of a list.
use Rattle.std.specs.Prelude.{◌≡◌, ◌≢◌, ◌⊎◌, ℕ, ◌==◌, ◌||◌, ◌≤◌, List, [], ◌∷◌, ◌++◌, Bool, true, false, take, codes, if◌then◌else◌}
use Rattle.std.specs.List.{list_any, list_all, count_by}
use Rattle.rt_stamps.specs.Words.{Word}

-- spaces and tabs separate words
abbrev pub is_blank : ℕ → Bool
is_blank c = (c == 32) || (c == 9)

-- in a list of words a newline separates them too
abbrev pub is_list_blank : ℕ → Bool
is_list_blank c = is_blank c || (c == 10)

abbrev pub AreSeparators : (ℕ → Bool) → List ℕ → Type 0
AreSeparators separates gap = list_all separates gap ≡ true

-- nothing follows, or a separator
abbrev pub EndsWord : (ℕ → Bool) → List ℕ → Type 0
EndsWord separates [] = Unit {0}
EndsWord separates (c ∷ rest) = separates c ≡ true

-- a bare word is not empty, has no separator, and begins with no quote or brace
abbrev pub IsBare : (ℕ → Bool) → List ℕ → Type 0
IsBare separates [] = ⊥
IsBare separates (c ∷ piece) = ((c == 34) || (c == 123) ≡ false) × (list_any separates (c ∷ piece) ≡ false)

-- a character within quotes: newline, tab, carriage return, backslash and quote have an escape, any other is as it is
abbrev pub escape_of : ℕ → List ℕ
escape_of c =
    if c == 10 then codes "\\n" else if c == 9 then codes "\\t" else if c == 13 then codes "\\r"
    else if c == 92 then codes "\\\\" else if c == 34 then codes "\\\"" else c ∷ []

-- what stands for a character within quotes: its escape, or the character itself if it is no quote and no backslash
abbrev pub StandsFor : List ℕ → ℕ → Type 0
StandsFor part c = (part ≡ escape_of c) ⊎ ((part ≡ c ∷ []) × (c ≢ 34) × (c ≢ 92))

-- a text within quotes is a word: what stands for each of its characters, one after the other
abbrev pub IsEscaped : List ℕ → Word → Type 0
IsEscaped text [] = text ≡ []
IsEscaped text (c ∷ word) = (part rest : List ℕ) × (text ≡ part ++ rest) × StandsFor part c × IsEscaped rest word

-- a quoted word stands between quotes
abbrev pub IsQuoted : List ℕ → Word → Type 0
IsQuoted piece word = (text : List ℕ) × (piece ≡ 34 ∷ text ++ (34 ∷ [])) × IsEscaped text word

-- how many braces of a text open, and how many close
abbrev pub opening : List ℕ → ℕ
opening text = count_by (λ c. c == 123) text

abbrev pub closing : List ℕ → ℕ
closing text = count_by (λ c. c == 125) text

-- as many braces close as open, and no more than that at the front of the text, however much of it is taken
abbrev pub IsBalanced : List ℕ → Type 0
IsBalanced text = (closing text ≡ opening text) × ((n : ℕ) → closing (take n text) ≤ opening (take n text))

-- a braced word stands between two braces that match: its own are balanced
abbrev pub IsBraced : List ℕ → Word → Type 0
IsBraced piece word = (piece ≡ 123 ∷ word ++ (125 ∷ [])) × IsBalanced word

-- a piece of a text spells a word: a bare word is each of its characters as it is
abbrev pub IsSpelling : (ℕ → Bool) → List ℕ → Word → Type 0
IsSpelling separates piece word = (IsBare separates piece × (word ≡ piece)) ⊎ IsQuoted piece word ⊎ IsBraced piece word

-- A text spells words: each has its piece of the text, and separators stand between the pieces, and perhaps before the
-- first and after the last.
abbrev pub SpellsBy : (ℕ → Bool) → List ℕ → List Word → Type 0
SpellsBy separates text [] = AreSeparators separates text
SpellsBy separates text (word ∷ words) = (gap piece rest : List ℕ) × (text ≡ gap ++ (piece ++ rest)) × AreSeparators separates gap
    × IsSpelling separates piece word × EndsWord separates rest × SpellsBy separates rest words

-- a text that spells no words is badly quoted
abbrev pub IsBadlyQuotedBy : (ℕ → Bool) → List ℕ → Type 0
IsBadlyQuotedBy separates text = (words : List Word) → SpellsBy separates text words → ⊥

-- in a line of a script spaces and tabs separate words
abbrev pub Spells : List ℕ → List Word → Type 0
Spells = SpellsBy is_blank

abbrev pub IsBadlyQuoted : List ℕ → Type 0
IsBadlyQuoted = IsBadlyQuotedBy is_blank

-- in a list of words, as of tags, newlines separate them too
abbrev pub SpellsList : List ℕ → List Word → Type 0
SpellsList = SpellsBy is_list_blank

abbrev pub IsBadlyQuotedList : List ℕ → Type 0
IsBadlyQuotedList = IsBadlyQuotedBy is_list_blank
