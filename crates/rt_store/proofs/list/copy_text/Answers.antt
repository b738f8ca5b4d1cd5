use Rattle.std.proofs.Common.{arith, length-set}
use Rattle.rt_store.proofs.Copying.{behind_on, copied_on, rest_here, rest_on, rest_over, rest_within}
use Rattle.rt_store.proofs.Steps.{text_gone}
use Rattle.rt_store.proofs.list.copy_text.Goals as goal
use Rattle.rt_store.proofs.list.copy_text.Goals.{then-not-cell, then-at-place+else-at-place-2, else-at-place, else-not-cell, else-loop-cell-test, then-loop-cell-test+then-not-cell+then-at-place+then-at-place-2}

pub loop-cell-preserved : goal.loop-cell-preserved
loop-cell-preserved c = elim c.if-not-cell.branch [
  | then-not-cell w ↦ elim w.if-at-place.branch [
    | then-at-place+else-at-place-2 v ↦ grind (arith, length-set, rest_here, rest_on, rest_within, copied_on, behind_on)
    | else-at-place v ↦ grind (arith, rest_here, rest_on, rest_within)
  ]
  | else-not-cell w ↦ grind (arith, text_gone)
]

pub returns-clause-count : goal.returns-clause-count
returns-clause-count c = elim c.loop-cell-test.branch [
  | else-loop-cell-test w ↦ grind (arith, rest_over)
  | then-loop-cell-test+then-not-cell+then-at-place+then-at-place-2 w ↦ grind arith
]
