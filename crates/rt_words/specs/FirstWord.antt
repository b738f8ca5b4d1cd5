-- The word at the front of a text, as it is read.
use Rattle.std.specs.Prelude.{◌≡◌, ℕ, ◌<◌, ◌≤◌, ◌==◌, ◌||◌, List, take, drop, length, Bool, not, slice_index}
use Rattle.rt_stamps.specs.Words.{Word}
use Rattle.rt_words.specs.Spelling.{EndsWord, IsSpelling, IsQuoted, IsBraced, IsBalanced}

-- so much of the front of a text spells a word, and a separator or nothing follows
abbrev pub IsFirstWord : (ℕ → Bool) → List ℕ → ℕ → Word → Type 0
IsFirstWord separates text len word = (len ≤ length text) × IsSpelling separates (take len text) word × EndsWord separates (drop len text)

abbrev pub HasNoFirstWord : (ℕ → Bool) → List ℕ → Type 0
HasNoFirstWord separates text = (len : ℕ) (word : Word) → IsFirstWord separates text len word → ⊥

-- a text begins with a character
abbrev pub BeginsWith : List ℕ → ℕ → Type 0
BeginsWith text c = (0 < length text) × (slice_index text 0 ≡ c)

-- so much of the front of a text is a quoted word
abbrev pub IsQuotedFront : List ℕ → ℕ → Word → Type 0
IsQuotedFront text len word = (len ≤ length text) × IsQuoted (take len text) word

abbrev pub HasNoQuotedFront : List ℕ → Type 0
HasNoQuotedFront text = (len : ℕ) (word : Word) → IsQuotedFront text len word → ⊥

-- so much of the front of a text is a braced word
abbrev pub IsBracedFront : List ℕ → ℕ → Word → Type 0
IsBracedFront text len word = (len ≤ length text) × IsBraced (take len text) word

abbrev pub HasNoBracedFront : List ℕ → Type 0
HasNoBracedFront text = (len : ℕ) (word : Word) → IsBracedFront text len word → ⊥

-- the brace at a place of a text closes one that stands before the text
abbrev pub ClosesAt : List ℕ → ℕ → Type 0
ClosesAt text place = (place < length text) × (slice_index text place ≡ 125) × IsBalanced (take place text)

-- neither a quote nor a backslash
abbrev pub is_plain : ℕ → Bool
is_plain c = not ((c == 34) || (c == 92))
