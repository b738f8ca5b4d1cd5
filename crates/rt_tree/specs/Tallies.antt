-- What cells count.
use Rattle.std.specs.Prelude.{◌≡◌, ℕ, List, length}
use Rattle.rt_stamps.specs.Places.{newlines}
use Rattle.rt_store.specs.declared.cell.Cell.{Cell}
use Rattle.rt_store.specs.Cells.{text_of, visible_of}
use Rattle.rt_tree.specs.declared.node.Counts.{Counts}

-- counts are those of a list of cells
pub record IsCountOf (counts : Counts) (list : List (Cell ℕ)) : Type 0 where
  pub cells : counts.cells ≡ length list
  pub visible : counts.visible ≡ length (visible_of list)
  pub newlines : counts.newlines ≡ newlines (text_of list)
