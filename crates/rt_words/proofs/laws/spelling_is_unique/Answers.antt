use Rattle.rt_words.proofs.Spelling.{line_spells_one, list_spells_one}
use Rattle.rt_words.proofs.laws.spelling_is_unique.Goals as goal

pub returns-clause-line : goal.returns-clause-line
returns-clause-line c = line_spells_one

pub returns-clause-list : goal.returns-clause-list
returns-clause-list c = list_spells_one
