use Rattle.rt_undo.proofs.Dropping.{any_stay, few_stay, full_stay, most_stay, newest_stay}
use Rattle.rt_undo.proofs.laws.newest_groups_stay.Goals as goal

pub returns-clause-most : goal.returns-clause-most
returns-clause-most c = most_stay

pub returns-clause-full : goal.returns-clause-full
returns-clause-full c = full_stay

pub returns-clause-newest : goal.returns-clause-newest
returns-clause-newest c = newest_stay

pub returns-clause-few : goal.returns-clause-few
returns-clause-few c = few_stay

pub returns-clause-any : goal.returns-clause-any
returns-clause-any c = any_stay
