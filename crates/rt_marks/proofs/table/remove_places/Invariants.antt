use Rattle.std.proofs.Common.{◌≡◌, ◌++◌, map, take, drop}
use Rattle.rt_marks.specs.Marks.{place_removed}
use Rattle.rt_marks.proofs.Moving.{replaced}
use Rattle.rt_marks.proofs.table.remove_places.Given as goal

abbrev pub invariant-loop-mark : goal.invariant-loop-mark
invariant-loop-mark l = l.mark-items ≡ map (replaced (λ m. place_removed l.place l.n m.place)) (take l.mark-index l.initial.mark-items) ++ drop l.mark-index l.initial.mark-items
