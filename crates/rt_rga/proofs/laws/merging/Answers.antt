use Rattle.rt_rga.proofs.Accepting.{history_if_new, new_if_history}
use Rattle.rt_rga.proofs.Commuting.{either_order}
use Rattle.rt_rga.proofs.Histories.{continues_from, history_with}
use Rattle.rt_rga.proofs.Merging.{cells_with}
use Rattle.rt_rga.proofs.laws.merging.Goals as goal

pub returns-clause-cells : goal.returns-clause-cells
returns-clause-cells c = λ set op h w. cells_with op set h (continues_from op set h w)

pub returns-clause-continues : goal.returns-clause-continues
returns-clause-continues c = λ set op h. (history_with op set h, continues_from op set h)

pub returns-clause-new : goal.returns-clause-new
returns-clause-new c = λ set op h r. (history_if_new set op h r, new_if_history set op h)

pub returns-clause-either_order : goal.returns-clause-either_order
returns-clause-either_order c = either_order
