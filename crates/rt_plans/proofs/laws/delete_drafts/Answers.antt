use Rattle.rt_plans.proofs.CharacterCounts.{loss_inserts_none}
use Rattle.rt_plans.proofs.DeletionDraftLaws.{loss_counted, loss_made, loss_may, spares_last}
use Rattle.rt_plans.proofs.laws.delete_drafts.Goals as goal

pub returns-clause-spared : goal.returns-clause-spared
returns-clause-spared c = spares_last

pub returns-clause-may_be_made : goal.returns-clause-may_be_made
returns-clause-may_be_made c = loss_may

pub returns-clause-count : goal.returns-clause-count
returns-clause-count c = loss_counted

pub returns-clause-made : goal.returns-clause-made
returns-clause-made c = loss_made

pub returns-clause-characters : goal.returns-clause-characters
returns-clause-characters c = loss_inserts_none
