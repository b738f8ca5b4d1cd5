-- Tags: the names that a site lists, in the order of their priority, lowest first. A name is seen as the list of its bytes.
use Rattle.std.specs.Prelude.{◌≡◌, ℕ, List, [], ◌∷◌, ◌++◌, Bool, true, false, not, ◌||◌, ◌&&◌, filter, Option, Some, None, if◌then◌else◌}
use Rattle.std.specs.List.{list_any}
use Rattle.std.specs.Str.{bytes_eq}
pub use Rattle.rt_stamps.specs.Names.{IsName, sel}

-- the names that are listed, lowest priority first, and in some order those that are ready: to list one of these takes no memory
pub record Tags : Type 0 where
  pub names : List (List ℕ)
  pub ready : List (List ℕ)

abbrev pub is_listed : List ℕ → List (List ℕ) → Bool
is_listed name names = list_any (bytes_eq name) names

-- no name is there twice
abbrev pub HaveNoRepeats : List (List ℕ) → Type 0
HaveNoRepeats [] = Unit {0}
HaveNoRepeats (name ∷ names) = (is_listed name names ≡ false) × HaveNoRepeats names

-- the names but one
abbrev pub without : List ℕ → List (List ℕ) → List (List ℕ)
without name names = filter (λ x. not (bytes_eq name x)) names

-- a new name has the highest priority, and one that is listed stays where it is
abbrev pub with_name : List ℕ → List (List ℕ) → List (List ℕ)
with_name name names = if is_listed name names then names else names ++ name ∷ []

-- a name is forgotten where it is among some that are given and isn't sel, which stays listed
abbrev pub is_forgotten : List (List ℕ) → List ℕ → Bool
is_forgotten given name = is_listed name given && not (bytes_eq name sel)

-- the names but those that are forgotten
abbrev pub all_forgotten : List (List ℕ) → List (List ℕ) → List (List ℕ)
all_forgotten given names = filter (λ x. not (is_forgotten given x)) names

-- READY NAMES

-- to list a name takes no memory
abbrev pub is_ready : List ℕ → Tags → Bool
is_ready name tags = is_listed name tags.ready

-- one more name is ready, and those that were stay so
abbrev pub AlsoReady : List ℕ → Tags → Tags → Type 0
AlsoReady name old new = (other : List ℕ) → is_ready other new ≡ (bytes_eq other name || is_ready other old)

-- the same names are ready
abbrev pub SameReady : Tags → Tags → Type 0
SameReady old new = (other : List ℕ) → is_ready other new ≡ is_ready other old

-- PRIORITIES

-- one more name, put just above another
abbrev pub just_above : List ℕ → List ℕ → List (List ℕ) → List (List ℕ)
just_above name other [] = []
just_above name other (x ∷ names) = if bytes_eq other x then x ∷ name ∷ names else x ∷ just_above name other names

-- one more name, put just below another
abbrev pub just_below : List ℕ → List ℕ → List (List ℕ) → List (List ℕ)
just_below name other [] = []
just_below name other (x ∷ names) = if bytes_eq other x then name ∷ x ∷ names else x ∷ just_below name other names

-- a name raised: above all, or just above another; nothing changes where that is the name itself
abbrev pub raised : List ℕ → Option (List ℕ) → List (List ℕ) → List (List ℕ)
raised name None names = without name names ++ name ∷ []
raised name (Some other) names = if bytes_eq name other then names else just_above name other (without name names)

-- a name lowered: below all, or just below another; nothing changes where that is the name itself
abbrev pub lowered : List ℕ → Option (List ℕ) → List (List ℕ) → List (List ℕ)
lowered name None names = name ∷ without name names
lowered name (Some other) names = if bytes_eq name other then names else just_below name other (without name names)

-- the other name is listed too, if one is given
abbrev pub is_place : Option (List ℕ) → List (List ℕ) → Bool
is_place None names = true
is_place (Some other) names = is_listed other names
