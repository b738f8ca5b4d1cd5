use Rattle.rt_store.proofs.Gone.{gone_more, gone_none}
use Rattle.rt_store.proofs.laws.gone_cells.Goals as goal

pub returns-clause-more : goal.returns-clause-more
returns-clause-more c s span spans cells = gone_more span spans cells

pub returns-clause-none : goal.returns-clause-none
returns-clause-none c s cells = gone_none cells
