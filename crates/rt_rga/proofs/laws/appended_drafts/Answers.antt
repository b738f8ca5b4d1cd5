use Rattle.rt_rga.proofs.Appending.{changed_append, characters_append, count_append, drafts_append, may_both, operations_append}
use Rattle.rt_rga.proofs.laws.appended_drafts.Goals as goal

pub returns-clause-operations : goal.returns-clause-operations
returns-clause-operations c = λ site drafts more set. operations_append site drafts more set

pub returns-clause-set : goal.returns-clause-set
returns-clause-set c = λ site drafts more set. drafts_append site drafts more set

pub returns-clause-cells : goal.returns-clause-cells
returns-clause-cells c = λ site drafts more set cells. changed_append site drafts more set cells

pub returns-clause-may_be_made : goal.returns-clause-may_be_made
returns-clause-may_be_made c = λ site drafts more set. may_both site drafts more set

pub returns-clause-count : goal.returns-clause-count
returns-clause-count c = λ drafts more count. count_append drafts more count

pub returns-clause-characters : goal.returns-clause-characters
returns-clause-characters c = λ drafts more. characters_append drafts more
