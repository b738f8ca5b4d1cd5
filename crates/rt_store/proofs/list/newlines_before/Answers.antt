use Rattle.std.proofs.Common.{arith}
use Rattle.rt_store.proofs.Steps.{text_gone, text_shown, newlines_first, newlines_other}
use Rattle.rt_store.proofs.list.newlines_before.Goals as goal
use Rattle.rt_store.proofs.list.newlines_before.Goals.{then-not-cell+then-cell-eq10, then-not-cell+else-cell-eq10, else-not-cell}

pub loop-cell-preserved : goal.loop-cell-preserved
loop-cell-preserved c = elim c.if-not-cell.branch [
  | then-not-cell+then-cell-eq10 w ↦ grind (arith, text_shown, newlines_first)
  | then-not-cell+else-cell-eq10 w ↦ grind (arith, text_shown, newlines_other)
  | else-not-cell w ↦ grind (arith, text_gone)
]
