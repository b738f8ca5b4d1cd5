-- What a search finds: of all places where the pattern stands, those in the stretches that are searched, in order.
use Rattle.std.specs.Prelude.{◌≡◌, ℕ, ◌+◌, ◌-◌, ◌<◌, ◌≤◌, ◌==◌, ◌&&◌, nat_lt, nat_le, not, Bool, true, List, [], ◌∷◌, ◌++◌, length, drop, filter, flat_map, fold, reverse, slice_get, Option, Some, None, if◌then◌else◌}
use Rattle.std.specs.List.{list_any, range_with_len, starts_with}
use Rattle.unicode.specs.CaseFolding.{simple_fold}
use Rattle.rt_search.specs.declared.search.Case.{Case}
use Rattle.rt_search.specs.declared.search.Case.TheVariants.{Exact, Ignored}
use Rattle.rt_search.specs.declared.search.Direction.{Direction}
use Rattle.rt_search.specs.declared.search.Direction.TheVariants.{Forwards, Backwards}
use Rattle.rt_search.specs.declared.search.Strictness.{Strictness}
use Rattle.rt_search.specs.declared.search.Strictness.TheVariants.{First, Strict}
use Rattle.rt_search.specs.declared.search.Overlaps.{Overlaps}
use Rattle.rt_search.specs.declared.search.Overlaps.TheVariants.{PassedOver, Taken}
use Rattle.rt_search.specs.declared.search.Search.{Search}
use Rattle.rt_lines.specs.declared.stretch.Stretch.{Stretch}

-- MATCHES

-- characters that count as the same
abbrev pub agree : Case → ℕ → ℕ → Bool
agree Exact a b = a == b
agree Ignored a b = simple_fold a == simple_fold b

-- the pattern stands in the text at a place: the text from there on begins with it, character by character
abbrev pub stands_at : Case → List ℕ → List ℕ → ℕ → Bool
stands_at case pattern text place = starts_with (agree case) (drop place text) pattern

-- STRETCHES

-- Without a stop a search goes through the whole text, from the start index to one end and then from the other end to the start
-- index; with one it stays between the two.
abbrev pub stretches : Direction → ℕ → Option ℕ → ℕ → List Stretch
stretches Forwards start None end = record { begin = start; end = end } ∷ record { begin = 0; end = start } ∷ []
stretches Forwards start (Some stop) end = record { begin = start; end = stop } ∷ []
stretches Backwards start None end = record { begin = 0; end = start } ∷ record { begin = start; end = end } ∷ []
stretches Backwards start (Some stop) end = record { begin = stop; end = start } ∷ []

-- the places of a stretch, rising when forwards and falling when backwards
abbrev pub ordered_places : Direction → Stretch → List ℕ
ordered_places Forwards stretch = range_with_len stretch.begin (stretch.end - stretch.begin)
ordered_places Backwards stretch = reverse (range_with_len stretch.begin (stretch.end - stretch.begin))

-- A match belongs to the stretch that has its first character. With strict limits its last character must lie there too.
abbrev pub ends_within : Strictness → Stretch → ℕ → ℕ → Bool
ends_within First stretch length place = true
ends_within Strict stretch length place = nat_le (place + length) stretch.end

-- the pattern stands at a place of a stretch, and ends in it if it must
abbrev pub is_match : Search → List ℕ → List ℕ → Stretch → ℕ → Bool
is_match search pattern text stretch place = stands_at search.case pattern text place && ends_within search.strictness stretch (length pattern) place

-- the matches of a stretch, in order
abbrev pub matches_in : Search → List ℕ → List ℕ → Stretch → List ℕ
matches_in search pattern text stretch = filter (is_match search pattern text stretch) (ordered_places search.direction stretch)

-- all matches, stretch after stretch
abbrev pub matches : Search → List ℕ → List ℕ → ℕ → Option ℕ → List ℕ
matches search pattern text start stop = flat_map (matches_in search pattern text) (stretches search.direction start stop (length text))

-- ANSWERS

-- one match: the first, which is the least of the first stretch that has one, or the greatest when backwards
abbrev pub first_match : Search → List ℕ → List ℕ → ℕ → Option ℕ → Option ℕ
first_match search pattern text start stop = slice_get (matches search pattern text start stop) 0

-- matches of one length that share a character
abbrev pub overlap : ℕ → ℕ → ℕ → Bool
overlap length a b = nat_lt a (b + length) && nat_lt b (a + length)

-- a match is taken, unless it overlaps one that is taken already and such are passed over
abbrev pub is_taken : Overlaps → ℕ → List ℕ → ℕ → Bool
is_taken Taken length taken place = true
is_taken PassedOver length taken place = not (list_any (overlap length place) taken)

-- one match more, if it is taken
abbrev pub with_match : Overlaps → ℕ → List ℕ → ℕ → List ℕ
with_match overlaps length taken place = if is_taken overlaps length taken place then taken ++ place ∷ [] else taken

-- all matches that are taken, in order
abbrev pub all_matches : Overlaps → Search → List ℕ → List ℕ → ℕ → Option ℕ → List ℕ
all_matches overlaps search pattern text start stop = fold (with_match overlaps (length pattern)) [] (matches search pattern text start stop)

-- WHAT THE FIRST MATCH IS

-- a place of a stretch where a search finds the pattern
pub record IsMatchIn (search : Search) (pattern text : List ℕ) (stretch : Stretch) (place : ℕ) : Type 0 where
  -- the stretch begins there or before it
  pub begins : stretch.begin ≤ place
  -- and ends behind it
  pub ends : place < stretch.end
  pub matches : is_match search pattern text stretch place ≡ true
