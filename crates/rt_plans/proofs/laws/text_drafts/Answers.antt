use Rattle.rt_plans.proofs.InsertRules.{text_as_flat, text_is_counted, text_is_made, text_may}
use Rattle.rt_plans.proofs.laws.text_drafts.Goals as goal

pub returns-clause-cells : goal.returns-clause-cells
returns-clause-cells c = text_as_flat

pub returns-clause-count : goal.returns-clause-count
returns-clause-count c = text_is_counted

pub returns-clause-may_be_made : goal.returns-clause-may_be_made
returns-clause-may_be_made c = text_may

pub returns-clause-made : goal.returns-clause-made
returns-clause-made c = λ site log after names text p h n t e l. (text_is_made site log after names text p h n t e l).cells
