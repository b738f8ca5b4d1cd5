use Rattle.std.proofs.Common.{arith}
use Rattle.rt_store.proofs.Nearest.{rest_gone, shown_here, shown_more, next_on, next_skipped}
use Rattle.rt_store.proofs.list.next_place.Goals as goal
use Rattle.rt_store.proofs.list.next_place.Goals.{then-not-cell+else-at-place, else-at-place-via-then-at-place+else-tag_is, else-at-place-via-else-at-place, else-not-cell}

pub loop-cell-preserved : goal.loop-cell-preserved
loop-cell-preserved c = elim c.if-not-cell.branch [
  | then-not-cell+else-at-place w ↦ elim w.else-at-place.branch [
    | else-at-place-via-then-at-place+else-tag_is v ↦ grind (arith, shown_here, shown_more, next_on)
    | else-at-place-via-else-at-place v ↦ grind (arith, shown_more, next_skipped)
  ]
  | else-not-cell w ↦ grind (arith, rest_gone)
]
