-- The cells that a list store keeps.
use Rattle.std.specs.Prelude.{ℕ, List}
use Rattle.rt_store.specs.declared.cell.Cell.{Cell}
use Rattle.rt_store.specs.declared.list.ListStore.{ListStore}

abbrev pub list_cells : ListStore → List (Cell ℕ)
list_cells store = store.cells.items
