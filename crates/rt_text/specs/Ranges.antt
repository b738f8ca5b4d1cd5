-- Ranges of places, and the texts in them.
use Rattle.std.specs.Prelude.{ℕ, ◌+◌, ◌-◌, List, [], ◌∷◌, take, drop, map, filter, Bool, true, false, encode_utf8_all}
use Rattle.rt_stamps.specs.Words.{Word}
use Rattle.rt_plans.specs.declared.range.Range.{Range}

-- The ranges that places name in pairs, each from its first place up to before its second. The last pair may lack its
-- second place, which is then the next one.
abbrev pub ranges_of : List ℕ → List Range
ranges_of [] = []
ranges_of (from ∷ []) = record { from = from; to = from + 1 } ∷ []
ranges_of (from ∷ to ∷ places) = record { from = from; to = to } ∷ ranges_of places

-- the characters from a place up to before another, none where that isn't later
abbrev pub text_between : List ℕ → ℕ → ℕ → List ℕ
text_between text from to = take (to - from) (drop from text)

abbrev pub has_characters : List ℕ → Bool
has_characters [] = false
has_characters (c ∷ text) = true

-- the texts of ranges that aren't empty, in order
abbrev pub texts_of : List ℕ → List Range → List Word
texts_of text ranges = map (λ t. encode_utf8_all t) (filter has_characters (map (λ range. text_between text range.from range.to) ranges))
