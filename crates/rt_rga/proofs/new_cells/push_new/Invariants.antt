use Rattle.std.proofs.Common.{◌≡◌, ◌+◌, ◌≤◌, ◌++◌, drop, length}
use Rattle.std.specs.Prelude.{vec_capacity, vec_len}
use Rattle.rt_store.specs.Cells.{cells_from}
use Rattle.rt_rga.proofs.new_cells.push_new.Given as goal

abbrev pub invariant-loop-ch : goal.invariant-loop-ch
invariant-loop-ch l = record {
  cells : l.cells.items ++ cells_from l.count l.first.site l.state (drop l.ch-index l.text) ≡ l.fn.cells.items ++ cells_from l.first.count l.first.site l.state l.text;
  room : vec_len l.cells + length l.text ≤ vec_capacity l.cells + l.ch-index;
  count : l.count ≡ l.first.count + l.ch-index;
}
