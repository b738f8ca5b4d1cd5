use Rattle.rt_marks.proofs.Moving.{inserted_in_order}
use Rattle.rt_marks.proofs.laws.order_after_insertion.Goals as goal

pub returns : goal.returns
returns c = inserted_in_order
