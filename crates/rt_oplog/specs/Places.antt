-- Places in their order, as a log sees them.
use Rattle.std.specs.Prelude.{ℕ, ◌-◌, List, length, slice_index_or}
use Rattle.rt_rows.specs.declared.rows.RowPlace.{RowPlace}

-- the places, and how many more can be put in without memory being taken
pub record Places : Type 0 where
  pub items : List RowPlace
  pub room : ℕ

-- the last of some places
abbrev pub end_place : List RowPlace → RowPlace
end_place places = slice_index_or places (length places - 1) (record { row = 0; at = 0 })
