-- Places in runs: in each, places of a row that follow one another.
use Rattle.std.specs.Prelude.{ℕ, zero, suc, ◌+◌, ◌==◌, ◌&&◌, Bool, List, [], ◌∷◌, length, take}
use Rattle.std.specs.List.{flat_map}
use Rattle.rt_rows.specs.declared.rows.RowPlace.{RowPlace}
use Rattle.rt_oplog.specs.declared.run.Run.{Run}

-- so many places of a row, from one on
abbrev pub places_from : ℕ → ℕ → ℕ → List RowPlace
places_from row at zero = []
places_from row at (suc n) = record { row = row; at = at } ∷ places_from row (suc at) n

abbrev pub places_of : Run → List RowPlace
places_of run = places_from run.row run.at (suc run.more)

-- the places of all runs, one run after another
abbrev pub places_in : List Run → List RowPlace
places_in runs = flat_map {X = Run} {A = RowPlace} places_of runs

-- how many places stand in front of a run
abbrev pub places_to : List Run → ℕ → ℕ
places_to runs run = length (places_in (take run runs))

-- a place follows the last one of a run
abbrev pub goes_on : Run → RowPlace → Bool
goes_on run place = (run.row == place.row) && (run.at + run.more + 1 == place.at)
