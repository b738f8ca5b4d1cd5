-- Elements of a stretch, as a dump gathers them.
use Rattle.std.specs.Prelude.{◌≡◌, ◌⊎◌, ℕ, ◌&&◌, ◌<◌, ◌≤◌, nat_le, nat_lt, Bool, true, false, List, filter}
use Rattle.std.specs.List.{All}
use Rattle.std.specs.List.Sorted.{IsNonDecreasingBy, IsPermutation}
use Rattle.rt_tagcmd.specs.declared.stretch.DumpStretch.{DumpStretch}
use Rattle.rt_tagcmd.specs.Elements.{Placed, is_at_place}
use Rattle.rt_store.specs.Tagged.{Passes}

-- a place is in a stretch
abbrev pub is_in_stretch : DumpStretch → ℕ → Bool
is_in_stretch stretch place = nat_le stretch.from place && nat_lt place stretch.behind

-- the elements that stand in a stretch
abbrev pub within : DumpStretch → List Placed → List Placed
within stretch elements = filter (λ e. is_in_stretch stretch e.place) elements

-- elements put in order by their places, where each place keeps the order of its own
pub record IsSortOf (old new : List Placed) : Type 0 where
  pub permuted : IsPermutation old new
  pub rise : IsNonDecreasingBy (λ e. e.place) new
  pub same : (place : ℕ) → filter (is_at_place place) new ≡ filter (is_at_place place) old

-- the elements of a stretch among others, by their places
pub record AreGathered (stretch : DumpStretch) (all elements : List Placed) : Type 0 where
  pub inside : All (λ e. (stretch.from ≤ e.place) × (e.place < stretch.behind)) elements
  pub rise : IsNonDecreasingBy (λ e. e.place) elements
  pub same : (place : ℕ) → stretch.from ≤ place → place < stretch.behind → filter (is_at_place place) elements ≡ filter (is_at_place place) all

-- the least place behind another that passes a test, or an end if none before it does
pub record EndsWhere (test : ℕ → Bool) (place found end : ℕ) : Type 0 where
  pub behind : place < found
  pub within : found ≤ end
  pub none_before : (k : ℕ) → place < k → k < found → test k ≡ false
  pub passes : (test found ≡ true) ⊎ (found ≡ end)

-- the characters from a place on pass a test, up to the first that doesn't or to an end
pub record RunsTo {A : Type 0} (test : A → Bool) (characters : List A) (place found end : ℕ) : Type 0 where
  pub behind : place < found
  pub within : found ≤ end
  pub all : (k : ℕ) → place ≤ k → k < found → Passes test characters k
  pub stops : found < end → Passes test characters found → ⊥
