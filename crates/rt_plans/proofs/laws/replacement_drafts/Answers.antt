use Rattle.rt_plans.proofs.ReplacementLaws.{replacement_counted, replacement_made, replacement_may}
use Rattle.rt_plans.proofs.laws.replacement_drafts.Goals as goal

pub returns-clause-may_be_made : goal.returns-clause-may_be_made
returns-clause-may_be_made c = replacement_may

pub returns-clause-count : goal.returns-clause-count
returns-clause-count c = replacement_counted

pub returns-clause-made : goal.returns-clause-made
returns-clause-made c = replacement_made
