-- Lists of tags that are kept once, and rows that name them by their places.
use Rattle.std.specs.Prelude.{◌<◌, ◌++◌, ◌∷◌, ℕ, List, [], IfSome, Option, Some, None, slice_index_or}
use Rattle.rt_stamps.specs.declared.stamp.Stamp.{Stamp}
use Rattle.rt_ops.specs.Operations.{Insert, Name, Operation}
use Rattle.rt_rows.specs.declared.row.RowStart.{RowStart}
use Rattle.rt_rows.specs.Rows.{TypedRow}

-- the list at a place, and no tags at none
abbrev pub names_at : List (List Name) → Option ℕ → List Name
names_at lists None = []
names_at lists (Some at) = slice_index_or lists at []

-- a row of characters as it is kept, with the place of its list of tags
pub record KeptRow : Type 0 where
  pub start : RowStart
  pub after : Stamp
  pub list : Option ℕ
  pub text : List ℕ

-- it with its tags
abbrev pub row_under : List (List Name) → KeptRow → TypedRow
row_under lists row = record { start = row.start; after = row.after; tags = names_at lists row.list; text = row.text }

-- it with one more character
abbrev pub with_character : KeptRow → ℕ → KeptRow
with_character row c = record row { text = row.text ++ c ∷ [] }

-- an Insert as it is kept, with the place of its list of tags
pub record KeptInsert : Type 0 where
  pub stamp : Stamp
  pub prev : ℕ
  pub after : Stamp
  pub list : ℕ
  pub text : List ℕ

-- it with its tags
abbrev pub insert_under : List (List Name) → KeptInsert → Operation
insert_under lists one =
    record { count = one.stamp.count; site = one.stamp.site; prev = one.prev; body = Insert one.after (names_at lists (Some one.list)) one.text }

-- the place of a list is one of so many
abbrev pub IsListed : ℕ → Option ℕ → Type 0
IsListed many list = IfSome list (λ at. at < many)

-- lists of tags, and how many more take no memory
pub record ListsValue : Type 0 where
  pub lists : List (List Name)
  pub room : ℕ
