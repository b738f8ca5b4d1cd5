-- Of the matches that are taken only the first and the last can overlap one that a search comes to.
use Rattle.std.specs.Prelude.{◌≡◌, ℕ, ◌-◌, ◌<◌, ◌≤◌, ◌||◌, Bool, false, List, length, slice_get, Option, Some, None}
use Rattle.std.specs.List.{list_any}
use Rattle.rt_search.specs.declared.search.Direction.{Direction}
use Rattle.rt_search.specs.declared.search.Direction.TheVariants.{Forwards, Backwards}
use Rattle.rt_lines.specs.declared.stretch.Stretch.{Stretch}
use Rattle.rt_search.specs.Searches.{overlap}

-- a match at a place overlaps another one, if there is one
abbrev pub overlaps_one : ℕ → Option ℕ → ℕ → Bool
overlaps_one size None place = false
overlaps_one size (Some other) place = overlap size place other

abbrev pub overlaps_first : ℕ → List ℕ → ℕ → Bool
overlaps_first size taken place = overlaps_one size (slice_get taken 0) place

abbrev pub overlaps_last : ℕ → List ℕ → ℕ → Bool
overlaps_last size taken place = overlaps_one size (slice_get taken (length taken - 1)) place

-- it overlaps one of those that are taken exactly where it overlaps the first of them, or the last
abbrev pub EndsDecide : ℕ → List ℕ → ℕ → Type 0
EndsDecide size taken place = list_any (overlap size place) taken ≡ (overlaps_first size taken place || overlaps_last size taken place)

-- it overlaps one exactly where it overlaps the first
abbrev pub FirstDecides : ℕ → List ℕ → ℕ → Type 0
FirstDecides size taken place = list_any (overlap size place) taken ≡ overlaps_first size taken place

-- a place is on the side of a stretch from which the search comes
abbrev pub IsBefore : Direction → Stretch → ℕ → Type 0
IsBefore Forwards stretch place = place < stretch.begin
IsBefore Backwards stretch place = stretch.end ≤ place
