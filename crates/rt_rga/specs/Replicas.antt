-- What is kept of a history: its cells, with the ids of their states.
use Rattle.std.specs.Prelude.{◌≡◌, ℕ, List, map}
use Rattle.rt_ops.specs.Operations.{Operation}
use Rattle.rt_store.specs.declared.cell.Cell.{Cell}
use Rattle.rt_store.specs.Tagged.{AreStates}
use Rattle.rt_tags.specs.States.{TagStates}
use Rattle.rt_rga.specs.Histories.{IsHistory}
use Rattle.rt_store.specs.Shown.{shown}
use Rattle.rt_rga.specs.Cells.{cells_of}

-- the log is a history, and the kept cells are its cells, where a table says what the ids of states mean
pub record IsReplica (log : List Operation) (table : TagStates) (kept : List (Cell ℕ)) : Type 0 where
  pub history : IsHistory log
  pub states : AreStates table kept
  pub cells : map (shown table) kept ≡ cells_of log
