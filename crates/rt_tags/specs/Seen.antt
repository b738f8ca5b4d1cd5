-- What contracts see of a set of names.
use Rattle.std.specs.Prelude.{◌≡◌, ℕ, zero, suc, List, [], ◌∷◌, true, false}
use Rattle.std.specs.declared.string.String.{String}
use Rattle.std.specs.Str.{bytes_eq}
use Rattle.rt_stamps.specs.Words.{as_words}
use Rattle.indexmap.specs.IndexSet.{IndexSet}

-- the names of a set, in its order
abbrev pub names_of : {Z S : Type 0} → IndexSet (String Z) S → List (List ℕ)
names_of set = as_words set.keys

-- the first of the names that is the given one stands at an index
abbrev pub IsAt : List ℕ → List (List ℕ) → ℕ → Type 0
IsAt name [] i = ⊥
IsAt name (x ∷ names) zero = bytes_eq name x ≡ true
IsAt name (x ∷ names) (suc i) = (bytes_eq name x ≡ false) × IsAt name names i
