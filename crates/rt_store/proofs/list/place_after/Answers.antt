use Rattle.std.proofs.Common.{arith}
use Rattle.rt_store.proofs.Steps.{text_gone, text_shown, after_first, after_other, after_none}
use Rattle.rt_store.proofs.list.place_after.Goals as goal
use Rattle.rt_store.proofs.list.place_after.Goals.{then-not-cell+then-cell-eq10, then-not-cell+else-cell-eq10, else-not-cell}

pub loop-cell-preserved : goal.loop-cell-preserved
loop-cell-preserved c = elim c.if-not-cell.branch [
  | then-not-cell+then-cell-eq10 w ↦ grind (arith, text_shown, after_first)
  | then-not-cell+else-cell-eq10 w ↦ grind (arith, text_shown, after_other)
  | else-not-cell w ↦ grind (arith, text_gone)
]

pub returns-after-loop-cell : goal.returns-after-loop-cell
returns-after-loop-cell c = grind (arith, after_none)
