use Rattle.rt_index.proofs.Complete.{fixed_complete}
use Rattle.rt_index.proofs.Spelling.{sound}
use Rattle.rt_index.proofs.Whole.{complete, fixed_sound}
use Rattle.rt_index.proofs.laws.grammar.Goals as goal

pub returns-clause-modifiers : goal.returns-clause-modifiers
returns-clause-modifiers c = λ text modifiers. (complete text modifiers, sound text modifiers)

pub returns-clause-fixed : goal.returns-clause-fixed
returns-clause-fixed c = λ text fixed. (fixed_complete text fixed, fixed_sound text fixed)
