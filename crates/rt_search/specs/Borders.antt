-- How far a pattern still stands in what was read, where it fails: by its borders, its fronts that are its ends too.
-- Pattern and text are functions of how many characters were read before, so forwards and backwards are one.
use Rattle.std.specs.Prelude.{◌≡◌, ℕ, ◌+◌, ◌-◌, ◌<◌, ◌≤◌, List, ◌∷◌, drop, filter, get_or, length}
use Rattle.unicode.specs.CaseFolding.{simple_fold}
use Rattle.rt_search.specs.declared.pass.Pass.{Pass}
use Rattle.rt_search.specs.declared.search.Case.{Case}
use Rattle.rt_search.specs.declared.search.Case.TheVariants.{Exact, Ignored}
use Rattle.rt_search.specs.declared.search.Direction.{Direction}
use Rattle.rt_search.specs.declared.search.Direction.TheVariants.{Forwards, Backwards}
use Rattle.rt_search.specs.declared.search.Search.{Search}
use Rattle.rt_lines.specs.declared.stretch.Stretch.{Stretch}
use Rattle.rt_search.specs.Searches.{ordered_places, stands_at}
use Rattle.rt_search.specs.Windows.{Shows}

-- WHAT IS READ

-- what of a character counts: two agree where these are equal
abbrev pub as_compared : Case → ℕ → ℕ
as_compared Exact character = character
as_compared Ignored character = simple_fold character

-- which of so many characters is read after so many others
abbrev pub read_at : Direction → ℕ → ℕ → ℕ
read_at Forwards many index = index
read_at Backwards many index = many - 1 - index

-- the pattern as it is read
abbrev pub pattern_read : Search → List ℕ → ℕ → ℕ
pattern_read search pattern index = as_compared search.case (get_or pattern (read_at search.direction (length pattern) index) 0)

-- the place that is read after so many others, for matches of a size that begin in a stretch
abbrev pub place_read : Direction → ℕ → Stretch → ℕ → ℕ
place_read Forwards size room index = room.begin + index
place_read Backwards size room index = room.end + size - 2 - index

-- the text as it is read
abbrev pub text_read : Search → ℕ → List ℕ → Stretch → ℕ → ℕ
text_read search size text room index = as_compared search.case (get_or text (place_read search.direction size room index) 0)

-- BORDERS

-- the first so many characters of a pattern stand in what is read, from one on
pub record CharactersAgree (pattern text : ℕ → ℕ) (start many : ℕ) : Type 0 where
  pub same : (index : ℕ) → index < many → pattern index ≡ text (start + index)

-- the longest border of the first so many characters: fewer, and still the last ones of these
pub record IsBorder (pattern : ℕ → ℕ) (many border : ℕ) : Type 0 where
  pub fewer : border < many
  pub stands : CharactersAgree pattern pattern (many - border) border
  pub longest : (by : ℕ) → 0 < by → by < many - border → CharactersAgree pattern pattern by (many - by) → ⊥

-- the borders of the first characters of a pattern: of one, of two, and so on
pub record AreBorders (pattern : ℕ → ℕ) (borders : List ℕ) : Type 0 where
  pub each : (index : ℕ) → index < length borders → IsBorder pattern (index + 1) (get_or borders index 0)

-- where so many characters agree from a start on, and one more is read: how many do then, from the first start where they can
pub record IsFurther (pattern text : ℕ → ℕ) (start many next : ℕ) : Type 0 where
  pub few : next ≤ many + 1
  pub stands : CharactersAgree pattern text (start + (many + 1 - next)) next
  pub first : (by : ℕ) → by < many + 1 - next → CharactersAgree pattern text (start + by) (many + 1 - by) → ⊥

-- PASSES

-- where a pass stands: at a match that may begin there, of which so many characters agree
pub record IsPass (search : Search) (pattern text : List ℕ) (room : Stretch) (pass : Pass) : Type 0 where
  pub shows : Shows text pass.window
  pub few : pass.agreed ≤ length pattern - 1
  pub agrees : CharactersAgree (pattern_read search pattern) (text_read search (length pattern) text room) pass.start pass.agreed

-- the matches that are left of a stretch behind so many of its places
abbrev pub left : Search → List ℕ → List ℕ → Stretch → ℕ → List ℕ
left search pattern text room start = filter (stands_at search.case pattern text) (drop start (ordered_places search.direction room))

-- the next match is at a place of the stretch, the one after so many others
pub record IsNextMatch (search : Search) (pattern text : List ℕ) (room : Stretch) (old new index : ℕ) : Type 0 where
  pub from : old ≤ index
  pub past : index < new
  pub within : index < room.end - room.begin
  pub rest : left search pattern text room old ≡ get_or (ordered_places search.direction room) index 0 ∷ left search pattern text room new
