use Rattle.rt_plans.proofs.GivenTags.{given_tags, listed_names}
use Rattle.rt_plans.proofs.laws.tags_of_insertion.Goals as goal

pub returns : goal.returns
returns c = record { given = given_tags; listed = listed_names }
