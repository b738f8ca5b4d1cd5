-- Rows: operations of a site with counts that follow one another, each of one count, and what they do. They are Inserts of one
-- character each after the one before, under the same tags, or Deletes of one span each.
use Rattle.std.specs.Prelude.{ℕ, zero, suc, ◌+◌, ◌-◌, ◌==◌, ◌&&◌, Bool, false, List, [], ◌∷◌, ◌++◌, length}
use Rattle.std.specs.Cmp.Lexicographic.{pointwise}
use Rattle.std.specs.Str.{bytes_eq}
use Rattle.rt_stamps.specs.declared.stamp.Span.{Span}
use Rattle.rt_stamps.specs.declared.stamp.Stamp.{Stamp}
use Rattle.rt_stamps.specs.Stamps.{is_same}
use Rattle.rt_ops.specs.Operations.{Name, Body, Insert, Delete, Operation, stamp_of}
use Rattle.rt_rows.specs.declared.row.RowStart.{RowStart}

-- the stamp at a place of a row, and the previous count there: that of the operation before it
abbrev pub stamp_in : RowStart → ℕ → Stamp
stamp_in start place = record { count = start.count + place; site = start.site }

abbrev pub prev_in : RowStart → ℕ → ℕ
prev_in start zero = start.prev
prev_in start (suc place) = start.count + place

-- the operation at a place of a row that does this
abbrev pub one_in : RowStart → ℕ → Body → Operation
one_in start place body = record { count = start.count + place; site = start.site; prev = prev_in start place; body = body }

-- the operations of a row from a place on, where this tells what the one at a place does
abbrev pub from_place : {X : Type 0} → RowStart → (ℕ → X → Body) → ℕ → List X → List Operation
from_place start body place [] = []
from_place start body place (x ∷ xs) = one_in start place (body place x) ∷ from_place start body (suc place) xs

-- an operation has the stamp and the previous count of the next one of a row of so many
abbrev pub follows : RowStart → ℕ → Operation → Bool
follows start many op = is_same (stamp_of op) (stamp_in start many) && (op.prev == start.count + (many - 1))

-- CHARACTERS

-- characters that a site typed in a row, the first after an element, and the tags that each is under
pub record TypedRow : Type 0 where
  pub start : RowStart
  pub after : Stamp
  pub tags : List Name
  pub text : List ℕ

-- the element after which the character at a place stands: the character before it
abbrev pub after_in : RowStart → Stamp → ℕ → Stamp
after_in start after zero = after
after_in start after (suc place) = stamp_in start place

-- what the operation of a character does
abbrev pub puts : RowStart → Stamp → List Name → ℕ → ℕ → Body
puts start after tags place c = Insert (after_in start after place) tags (c ∷ [])

-- what a row of characters stands for
abbrev pub operations_in_row : TypedRow → List Operation
operations_in_row row = from_place row.start (puts row.start row.after row.tags) 0 row.text

-- a row with one more character
abbrev pub row_with : TypedRow → ℕ → TypedRow
row_with row c = record row { text = row.text ++ c ∷ [] }

-- the last stamp of a row that has characters
abbrev pub last_of_row : TypedRow → Stamp
last_of_row row = stamp_in row.start (length row.text - 1)

-- the same names, in the same order
abbrev pub are_same_names : List Name → List Name → Bool
are_same_names = pointwise bytes_eq

-- an Insert of one character after an element, under these tags
abbrev pub puts_one : Stamp → List Name → Body → Bool
puts_one last names (Insert after tags (c ∷ [])) = is_same after last && are_same_names tags names
puts_one last names _ = false

-- the operation is the next one of the row
abbrev pub is_next_of_row : TypedRow → Operation → Bool
is_next_of_row row op = follows row.start (length row.text) op && puts_one (last_of_row row) row.tags op.body

-- the first character of an Insert
abbrev pub character_of : Body → ℕ
character_of (Insert after tags (c ∷ text)) = c
character_of _ = 0

-- DELETES

-- Deletes of one span each
pub record DeletesInRow : Type 0 where
  pub start : RowStart
  pub spans : List Span

-- what the operation of a span does
abbrev pub deletes : ℕ → Span → Body
deletes place span = Delete (span ∷ [])

-- what they stand for
abbrev pub deletes_in_row : DeletesInRow → List Operation
deletes_in_row row = from_place row.start deletes 0 row.spans

-- a row with one more span
abbrev pub with_span : DeletesInRow → Span → DeletesInRow
with_span row span = record row { spans = row.spans ++ span ∷ [] }
