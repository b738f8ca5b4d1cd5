use Rattle.rt_words.proofs.Deciding.{line_spells, list_spells}
use Rattle.rt_words.proofs.laws.spelling_is_total.Goals as goal

pub returns-clause-line : goal.returns-clause-line
returns-clause-line c = line_spells

pub returns-clause-list : goal.returns-clause-list
returns-clause-list c = list_spells
