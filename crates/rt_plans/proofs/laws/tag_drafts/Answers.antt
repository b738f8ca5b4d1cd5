use Rattle.rt_plans.proofs.CharacterCounts.{deletions_insert_none, tags_insert_none}
use Rattle.rt_plans.proofs.DeletedNames.{deletions_made, deletions_may}
use Rattle.rt_plans.proofs.NewlineTags.{bared_as_tags, newline_one_each}
use Rattle.rt_plans.proofs.TagDocuments.{all_deletions_counted, all_tags_counted, tags_are_counted, tags_made, tags_may}
use Rattle.rt_plans.proofs.TagDraftLaws.{tags_as_flat}
use Rattle.rt_plans.proofs.laws.tag_drafts.Goals as goal

pub returns-clause-cells : goal.returns-clause-cells
returns-clause-cells c = λ site log cells on name stamps d. tags_as_flat site name on stamps d log cells

pub returns-clause-count : goal.returns-clause-count
returns-clause-count c = tags_are_counted

pub returns-clause-may_be_made : goal.returns-clause-may_be_made
returns-clause-may_be_made c = tags_may

pub returns-clause-made : goal.returns-clause-made
returns-clause-made c = tags_made

pub returns-clause-deleted_may_be_made : goal.returns-clause-deleted_may_be_made
returns-clause-deleted_may_be_made c = deletions_may

pub returns-clause-deleted : goal.returns-clause-deleted
returns-clause-deleted c = deletions_made

pub returns-clause-newline : goal.returns-clause-newline
returns-clause-newline c = newline_one_each

pub returns-clause-bared : goal.returns-clause-bared
returns-clause-bared c = bared_as_tags

pub returns-clause-all_counted : goal.returns-clause-all_counted
returns-clause-all_counted c = all_tags_counted

pub returns-clause-deleted_counted : goal.returns-clause-deleted_counted
returns-clause-deleted_counted c = all_deletions_counted

pub returns-clause-characters : goal.returns-clause-characters
returns-clause-characters c = λ doc places on names. tags_insert_none names doc places on

pub returns-clause-deleted_characters : goal.returns-clause-deleted_characters
returns-clause-deleted_characters c = λ doc names. deletions_insert_none names doc
