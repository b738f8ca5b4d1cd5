use Rattle.rt_lines.proofs.Chosen.{first_chosen, first_of_none, first_stays, first_whole, last_chosen, none_chosen, two_chosen, whole_chosen}
use Rattle.rt_lines.proofs.laws.chosen_lines.Goals as goal

pub returns-clause-first : goal.returns-clause-first
returns-clause-first g c cells line end limits chosen d e = first_chosen cells line end limits chosen d e

pub returns-clause-whole_start : goal.returns-clause-whole_start
returns-clause-whole_start g c cells end limits chosen d e = first_whole cells end limits chosen d e

pub returns-clause-kept_start : goal.returns-clause-kept_start
returns-clause-kept_start g c cells end limits chosen stamp position d f s e = first_stays cells end limits chosen stamp position d f s e

pub returns-clause-last : goal.returns-clause-last
returns-clause-last g c cells start end limits chosen d e = last_chosen cells start end limits chosen d e

pub returns-clause-whole : goal.returns-clause-whole
returns-clause-whole g c cells limits chosen h e = whole_chosen cells limits chosen h e

pub returns-clause-never_refused : goal.returns-clause-never_refused
returns-clause-never_refused g c cells limits h = none_chosen cells limits h

pub returns-clause-without_start : goal.returns-clause-without_start
returns-clause-without_start g c cells end limits chosen d n e = first_of_none cells end limits chosen d n e

pub returns-clause-lines_taken : goal.returns-clause-lines_taken
returns-clause-lines_taken g c cells line end limits h k l = two_chosen cells line end limits h k l
