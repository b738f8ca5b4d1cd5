-- Cells that are typed on.
use Rattle.std.specs.Prelude.{◌≡◌, ℕ, ◌-◌, ◌<◌, List, ◌∷◌, length, slice_get, Some}
use Rattle.rt_store.specs.declared.cell.Cell.{Cell}
use Rattle.rt_tree.specs.Additions.{stretch_count}
use Rattle.rt_tree.specs.Trees.{TreeValue}

-- the cell at a position came last of all
abbrev pub CameLast : TreeValue → ℕ → Type 0
CameLast s position = slice_get s.came position ≡ Some (length s.cells - 1)

-- New cells go on from the one before a position, which came last of all.
pub record AreTypedOn (s : TreeValue) (at : ℕ) (cells : List (Cell ℕ)) : Type 0 where
  pub before : Cell ℕ
  pub some : 0 < at
  pub there : slice_get s.cells (at - 1) ≡ Some before
  pub last : CameLast s (at - 1)
  pub one : stretch_count (before ∷ cells) ≡ 1

-- More cells go on from the last of some, as one stretch with it.
pub record GoOn (cells more : List (Cell ℕ)) : Type 0 where
  pub last : Cell ℕ
  pub is : slice_get cells (length cells - 1) ≡ Some last
  pub one : stretch_count (last ∷ more) ≡ 1
