use Rattle.rt_plans.proofs.CharacterCounts.{insertion_length}
use Rattle.rt_plans.proofs.PieceDraftLaws.{insertion_counted, insertion_made, insertion_may}
use Rattle.rt_plans.proofs.TagNames.{shared_are, tags_between_are}
use Rattle.rt_plans.proofs.laws.insertion_drafts.Goals as goal

pub returns-clause-may_be_made : goal.returns-clause-may_be_made
returns-clause-may_be_made c = insertion_may

pub returns-clause-made : goal.returns-clause-made
returns-clause-made c = insertion_made

pub returns-clause-shared : goal.returns-clause-shared
returns-clause-shared c = shared_are

pub returns-clause-between : goal.returns-clause-between
returns-clause-between c = tags_between_are

pub returns-clause-count : goal.returns-clause-count
returns-clause-count c = insertion_counted

pub returns-clause-characters : goal.returns-clause-characters
returns-clause-characters c = insertion_length
