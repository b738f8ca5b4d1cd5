use Rattle.rt_plans.proofs.RemovedText.{text_left, inner_removed, end_removed}
use Rattle.rt_plans.proofs.laws.text_of_removal.Goals as goal

pub returns-clause-left : goal.returns-clause-left
returns-clause-left c = λ removed cells. text_left removed 0 cells

pub returns-clause-inner : goal.returns-clause-inner
returns-clause-inner c = λ text range h k. inner_removed text range h k

pub returns-clause-end : goal.returns-clause-end
returns-clause-end c = λ text from h. end_removed text from h
