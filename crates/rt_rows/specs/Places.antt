-- Operations in rows, and where one is kept.
use Rattle.std.specs.Prelude.{◌≡◌, ℕ, ◌<◌, ◌⊎◌, List, [], length, slice_index_or}
use Rattle.rt_ops.specs.Operations.{Operation, Delete}
use Rattle.rt_rows.specs.declared.rows.RowPlace.{RowPlace}

-- stands where no operation does
abbrev pub nothing : Operation
nothing = record { count = 0; site = 0; prev = 0; body = Delete [] }

-- the operation at a place
abbrev pub op_at : List (List Operation) → RowPlace → Operation
op_at rows place = slice_index_or (slice_index_or rows place.row []) place.at nothing

-- some operation stands at a place
abbrev pub HasPlace : List (List Operation) → RowPlace → Type 0
HasPlace rows place = place.at < length (slice_index_or rows place.row [])

-- this operation stands at a place
abbrev pub StandsAt : List (List Operation) → Operation → RowPlace → Type 0
StandsAt rows op place = HasPlace rows place × (op_at rows place ≡ op)

-- what stands in the old rows stands at the same places in the new ones
abbrev pub KeepsPlaces : List (List Operation) → List (List Operation) → Type 0
KeepsPlaces old new = (place : RowPlace) → HasPlace old place → StandsAt new (op_at old place) place

-- a place is new, and no other is
abbrev pub IsOnlyNew : List (List Operation) → List (List Operation) → RowPlace → Type 0
IsOnlyNew old new place = (HasPlace old place → ⊥) × ((other : RowPlace) → HasPlace new other → HasPlace old other ⊎ (other ≡ place))

-- operations in rows, and how many more take no memory
pub record RowsValue : Type 0 where
  pub rows : List (List Operation)
  pub room : ℕ
