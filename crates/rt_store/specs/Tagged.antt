-- The tags of characters, and the nearest place that has one or hasn't it.
use Rattle.std.specs.Prelude.{◌≡◌, ℕ, ◌+◌, ◌<◌, ◌≤◌, slice_get, true, List, [], ◌∷◌, Bool, not, take, drop, position, Option, Some, None, option_map, if◌then◌else◌}
use Rattle.std.specs.List.{All}
use Rattle.rt_store.specs.Cells.{visible_of}
use Rattle.rt_store.specs.declared.cell.Cell.{Cell}
use Rattle.rt_tags.specs.States.{TagStates, IsState, is_on, name_at, state_at}

-- each cell's state is one that the table gave out
abbrev pub AreStates : TagStates → List (Cell ℕ) → Type 0
AreStates table cells = All (λ cell. IsState table cell.state) cells

-- a tag is on a character
abbrev pub has_tag : TagStates → ℕ → Cell ℕ → Bool
has_tag table tag cell = is_on (name_at table tag) (state_at table cell.state)

-- a tag is on a character, or it isn't, as is asked
abbrev pub tag_is : TagStates → ℕ → Bool → Cell ℕ → Bool
tag_is table tag on cell = if on then has_tag table tag cell else not (has_tag table tag cell)

-- the least place from one up whose character passes a test
abbrev pub next_place : {A : Type 0} → (A → Bool) → List A → ℕ → Option ℕ
next_place test characters place = option_map (λ further. place + further) (position test (drop place characters))

-- one character before others: the greatest place of those, which is one further now; if they have none, the first place if that passes
abbrev pub last_with : Bool → Option ℕ → Option ℕ
last_with passes (Some place) = Some (place + 1)
last_with passes None = if passes then Some 0 else None

-- the greatest place whose character passes a test
abbrev pub last_place : {A : Type 0} → (A → Bool) → List A → Option ℕ
last_place test [] = None
last_place test (c ∷ characters) = last_with (test c) (last_place test characters)

-- the greatest place below one whose character passes a test
abbrev pub previous_place : {A : Type 0} → (A → Bool) → List A → ℕ → Option ℕ
previous_place test characters place = last_place test (take place characters)

-- the least place from one up whose character has a tag
abbrev pub next_tagged : TagStates → ℕ → List (Cell ℕ) → ℕ → Option ℕ
next_tagged table tag cells place = next_place (has_tag table tag) (visible_of cells) place

-- the least place from one up whose character hasn't a tag
abbrev pub next_untagged : TagStates → ℕ → List (Cell ℕ) → ℕ → Option ℕ
next_untagged table tag cells place = next_place (λ cell. not (has_tag table tag cell)) (visible_of cells) place

-- the greatest place below one whose character has a tag
abbrev pub previous_tagged : TagStates → ℕ → List (Cell ℕ) → ℕ → Option ℕ
previous_tagged table tag cells place = previous_place (has_tag table tag) (visible_of cells) place

-- WHAT THE NEAREST PLACES ARE

-- the character at a place passes a test
abbrev pub Passes : {A : Type 0} → (A → Bool) → List A → ℕ → Type 0
Passes test characters place = option_map test (slice_get characters place) ≡ Some true

-- a place is the least from one up whose character passes
pub record IsLeastFrom {A : Type 0} (test : A → Bool) (characters : List A) (place found : ℕ) : Type 0 where
  pub from : place ≤ found
  pub passes : Passes test characters found
  pub none_before : (k : ℕ) → place ≤ k → k < found → Passes test characters k → ⊥

-- a place is the greatest below one whose character passes
pub record IsGreatestBelow {A : Type 0} (test : A → Bool) (characters : List A) (place found : ℕ) : Type 0 where
  pub below : found < place
  pub passes : Passes test characters found
  pub none_after : (k : ℕ) → found < k → k < place → Passes test characters k → ⊥
