use Rattle.rt_plans.proofs.RemovalDraftLaws.{deletes_are_counted, deletes_make_gone, deletes_may_be_made, removal_made}
use Rattle.rt_plans.proofs.laws.removal_drafts.Goals as goal

pub returns-clause-cells : goal.returns-clause-cells
returns-clause-cells c = deletes_make_gone

pub returns-clause-count : goal.returns-clause-count
returns-clause-count c = deletes_are_counted

pub returns-clause-may_be_made : goal.returns-clause-may_be_made
returns-clause-may_be_made c = deletes_may_be_made

pub returns-clause-made : goal.returns-clause-made
returns-clause-made c = λ site log document removed p h doc spared l. (removal_made site log document removed p h doc spared l).document
