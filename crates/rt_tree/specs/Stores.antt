-- The cells that a tree store keeps, and the tables that it agrees with.
use Rattle.std.specs.Prelude.{ℕ, List}
use Rattle.rt_store.specs.declared.cell.Cell.{Cell}
use Rattle.rt_tags.specs.States.{TagStates}
use Rattle.rt_tree.specs.declared.store.TreeStore.{TreeStore}
use Rattle.rt_tree.specs.Trees.{AgreesWithTable}

abbrev pub store_cells : TreeStore → List (Cell ℕ)
store_cells store = store.tree.cells

-- the cells' states were given out by a table, and what is kept for nodes is right by it
abbrev pub AgreesWith : TagStates → TreeStore → Type 0
AgreesWith table store = AgreesWithTable table store.tree
