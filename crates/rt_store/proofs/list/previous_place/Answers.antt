use Rattle.std.proofs.Common.{arith}
use Rattle.rt_store.proofs.Nearest.{rest_gone, shown_here, shown_more, walked, previous_here, previous_on, previous_end}
use Rattle.rt_store.proofs.list.previous_place.Goals as goal
use Rattle.rt_store.proofs.list.previous_place.Goals.{then-not-cell, then-has, else-has, else-not-cell}

pub loop-cell-preserved : goal.loop-cell-preserved
loop-cell-preserved c = elim c.if-not-cell.branch [
  | then-not-cell w ↦ elim w.if-has.branch [
    | then-has v ↦ grind (arith, shown_here, shown_more, previous_here)
    | else-has v ↦ grind (arith, shown_here, shown_more, previous_on)
  ]
  | else-not-cell w ↦ grind (arith, rest_gone)
]

pub returns-after-loop-cell : goal.returns-after-loop-cell
returns-after-loop-cell c = grind (arith, walked, previous_end)
