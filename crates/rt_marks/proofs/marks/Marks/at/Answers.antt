use Rattle.rt_marks.proofs.Slots.{are_ordered}
use Rattle.rt_marks.proofs.marks.Marks.at.Goals as goal

pub mark_at-requires : goal.mark_at-requires
mark_at-requires c = are_ordered _ _ _ c.self.invariant
