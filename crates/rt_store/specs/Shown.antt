-- Cells with what their states stand for.
use Rattle.std.specs.Prelude.{ℕ, List}
use Rattle.rt_store.specs.declared.cell.Cell.{Cell}
use Rattle.rt_store.specs.Cells.{map_state}
use Rattle.rt_tags.specs.States.{TagStates, Write, state_at}

-- a cell with the writes on its character, of each tag the one with the greatest stamp
abbrev pub TaggedCell : Type 0
TaggedCell = Cell (List Write)

-- a cell of a store with what its state stands for
abbrev pub shown : TagStates → Cell ℕ → TaggedCell
shown table cell = map_state (state_at table) cell
