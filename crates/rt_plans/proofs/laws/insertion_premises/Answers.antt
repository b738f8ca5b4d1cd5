use Rattle.rt_plans.proofs.FoundLaws.{characters_are_scalars, left_is_element, left_stays, tags_left_are}
use Rattle.rt_plans.proofs.PremiseLaws.{may_begin, may_begin_in_rest, pieces_are}
use Rattle.rt_plans.proofs.TagNames.{cells_have_names}
use Rattle.rt_plans.proofs.laws.insertion_premises.Goals as goal

pub returns-clause-element : goal.returns-clause-element
returns-clause-element c = left_is_element

pub returns-clause-element_left : goal.returns-clause-element_left
returns-clause-element_left c = left_stays

pub returns-clause-names : goal.returns-clause-names
returns-clause-names c = cells_have_names

pub returns-clause-names_left : goal.returns-clause-names_left
returns-clause-names_left c = tags_left_are

pub returns-clause-characters : goal.returns-clause-characters
returns-clause-characters c = characters_are_scalars

pub returns-clause-pieces : goal.returns-clause-pieces
returns-clause-pieces c = pieces_are

pub returns-clause-insertion : goal.returns-clause-insertion
returns-clause-insertion c = may_begin

pub returns-clause-replacement : goal.returns-clause-replacement
returns-clause-replacement c = may_begin_in_rest
