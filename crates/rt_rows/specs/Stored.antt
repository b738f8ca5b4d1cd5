-- What is kept in a row, and the operations that it stands for.
use Rattle.std.specs.Prelude.{ℕ, List, [], ◌∷◌, Option, Some, None, map}
use Rattle.std.specs.List.{AllByRecursion}
use Rattle.rt_ops.specs.Operations.{Name, Operation}
use Rattle.rt_rows.specs.declared.rows.RowPlace.{RowPlace}
use Rattle.rt_rows.specs.declared.stored.Stored.{Stored}
use Rattle.rt_rows.specs.declared.stored.Stored.TheVariants.{Typed, Deleted, Listed, Single}
use Rattle.rt_rows.specs.Listed.{IsListed, insert_under, row_under}
use Rattle.rt_rows.specs.Places.{IsOnlyNew, KeepsPlaces, StandsAt}
use Rattle.rt_rows.specs.Rows.{deletes_in_row, operations_in_row}

abbrev pub operations_stored : List (List Name) → Stored → List Operation
operations_stored lists (Typed row) = operations_in_row (row_under lists row)
operations_stored lists (Deleted row) = deletes_in_row row
operations_stored lists (Listed one) = insert_under lists one ∷ []
operations_stored lists (Single op) = op ∷ []

-- the operations of each
abbrev pub rows_in : List (List Name) → List Stored → List (List Operation)
rows_in lists kept = map (operations_stored lists) kept

-- the place of its list of tags, where it has one
abbrev pub list_in : Stored → Option ℕ
list_in (Typed row) = row.list
list_in (Deleted row) = None
list_in (Listed one) = Some one.list
list_in (Single op) = None

-- the places of lists are of so many
abbrev pub AreListed : ℕ → List Stored → Type 0
AreListed many kept = AllByRecursion (λ stored. IsListed many (list_in stored)) kept

-- whatever the lists are, an operation comes in at a place, which alone is new, and all others keep theirs
pub record IsPut (old new : List Stored) (op : List (List Name) → Operation) (place : RowPlace) : Type 0 where
  pub there : (lists : List (List Name)) → StandsAt (rows_in lists new) (op lists) place
  pub one : (lists : List (List Name)) → IsOnlyNew (rows_in lists old) (rows_in lists new) place
  pub kept : (lists : List (List Name)) → KeepsPlaces (rows_in lists old) (rows_in lists new)

-- what is kept, and how many more rows take no memory
pub record KeptValue : Type 0 where
  pub kept : List Stored
  pub room : ℕ
